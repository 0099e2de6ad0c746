use Rattle.std.proofs.Common.{◌==◌, refl, rules, tests}
use Rattle.std.proofs.lemmas.Iterator.Search.{any_from_yields_List}
use Rattle.std.proofs.lemmas.Iterator.Consumers.{YieldsList-from_first}
use Rattle.hdl_msg.specs.Views.{numbers_of}
use Rattle.hdl_ops.proofs.asked_values.lists_index.Goals as goal

pub returns : goal.returns
returns c = any_from_yields_List (λ i. i == c.args.index) c.any.new.self _ c.any.result c.any.ensures.ran (YieldsList-from_first (λ i. i) numbers_of {s = c.args.indexes} (numbers_of c.args.indexes) refl) (λ x b q k. search (rules, tests))
