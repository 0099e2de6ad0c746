use Rattle.std.proofs.Common.{rules, tests}
use Rattle.std.proofs.lemmas.Iterator.{YieldsList-from_slice}
use Rattle.std.proofs.lemmas.Iterator.Search.{all_from_yields_List}
use Rattle.hdl_value_lines.specs.Fields.{is_graphic}
use Rattle.hdl_value_lines.proofs.fields.are_graphic.Goals as goal

pub returns : goal.returns
returns c = all_from_yields_List is_graphic _ _ c.all.result c.all.ensures.ran (YieldsList-from_slice c.args.octets.now cc) (λ x b q k. search (rules, tests))
