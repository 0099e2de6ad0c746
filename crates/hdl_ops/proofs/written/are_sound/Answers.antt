use Rattle.std.proofs.Common.{refl, rules, sym, tests, ◌∙◌}
use Rattle.std.proofs.lemmas.Iterator.Search.{all_from_yields_List}
use Rattle.std.proofs.lemmas.Iterator.Consumers.{YieldsList-from_first}
use Rattle.std.proofs.lemmas.List.Folds.{list_all-map}
use Rattle.hdl_msg.specs.Views.{values_of}
use Rattle.hdl_value.specs.Padding.{stored_by}
use Rattle.hdl_value.specs.Tests.{is_sound}
use Rattle.hdl_ops.proofs.written.are_sound.Goals as goal

pub returns : goal.returns
returns c =
    all_from_yields_List (λ v. is_sound (stored_by c.args.wire v)) c.all.new.self _ c.all.result c.all.ensures.ran (YieldsList-from_first (λ x. x) values_of {s = c.args.values} (values_of c.args.values) refl) (λ x b q k. search (rules, tests))
    ∙ sym (list_all-map is_sound (stored_by c.args.wire) (values_of c.args.values))
