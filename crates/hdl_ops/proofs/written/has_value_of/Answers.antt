use Rattle.std.proofs.Common.{◌==◌, refl, rules, tests}
use Rattle.std.proofs.lemmas.Iterator.Search.{any_from_yields_List}
use Rattle.std.proofs.lemmas.Iterator.Consumers.{YieldsList-from_first}
use Rattle.hdl_msg.specs.Views.{values_of}
use Rattle.hdl_ops.proofs.written.has_value_of.Goals as goal

pub returns : goal.returns
returns c = any_from_yields_List (λ v. v.index == c.args.index) c.any.new.self _ c.any.result c.any.ensures.ran (YieldsList-from_first (λ x. x) values_of {s = c.args.values} (values_of c.args.values) refl) (λ x b q k. search (rules, tests))
