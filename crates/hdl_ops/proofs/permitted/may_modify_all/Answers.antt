use Rattle.std.proofs.Common.{refl, rules, tests}
use Rattle.std.proofs.lemmas.Iterator.Search.{all_from_yields_List}
use Rattle.std.proofs.lemmas.Iterator.Consumers.{YieldsList-from_first}
use Rattle.hdl_msg.specs.Views.{values_of}
use Rattle.hdl_value.specs.Permission.{mask_permits}
use Rattle.hdl_ops.specs.Proven.{modify_needs}
use Rattle.hdl_ops.proofs.permitted.may_modify_all.Goals as goal

pub returns : goal.returns
returns c = all_from_yields_List (λ n. mask_permits c.args.mask.0 (modify_needs c.args.values.now n)) c.all.new.self _ c.all.result c.all.ensures.ran (YieldsList-from_first (λ x. x) values_of {s = c.args.news} (values_of c.args.news) refl) (λ x b q k. search (rules, tests))
