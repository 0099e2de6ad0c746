use Rattle.std.proofs.Common.{rules, tests}
use Rattle.std.proofs.lemmas.Iterator.{YieldsList-from_slice}
use Rattle.std.proofs.lemmas.Iterator.Search.{all_from_yields_List}
use Rattle.hdl_value.specs.declared.admin.Reference.{Reference}
use Rattle.hdl_value_lines.specs.Fields.{is_word}
use Rattle.hdl_value_lines.proofs.write.are_words.Goals as goal

pub returns : goal.returns
returns c = all_from_yields_List (λ (r : Reference). is_word r.name) _ _ c.all.result c.all.ensures.ran (YieldsList-from_slice c.args.references.now cc) (λ x b q k. search (rules, tests))
