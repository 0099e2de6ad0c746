use Rattle.std.proofs.Common.{refl, rules, tests}
use Rattle.std.proofs.lemmas.Iterator.Search.{all_from_yields_List}
use Rattle.std.proofs.lemmas.Iterator.Consumers.{YieldsList-from_first}
use Rattle.hdl_msg.specs.Views.{numbers_of}
use Rattle.hdl_value.specs.Permission.{mask_permits}
use Rattle.hdl_ops.specs.Proven.{remove_needs}
use Rattle.hdl_ops.proofs.permitted.may_remove_all.Goals as goal

pub returns : goal.returns
returns c = all_from_yields_List (λ i. mask_permits c.args.mask.0 (remove_needs c.args.values.now i)) c.all.new.self _ c.all.result c.all.ensures.ran (YieldsList-from_first (λ x. x) numbers_of {s = c.args.indexes} (numbers_of c.args.indexes) refl) (λ x b q k. search (rules, tests))
