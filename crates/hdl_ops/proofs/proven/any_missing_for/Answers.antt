use Rattle.std.proofs.Common.{refl, rules, tests}
use Rattle.std.proofs.lemmas.Iterator.Search.{any_from_yields_List}
use Rattle.std.proofs.lemmas.Iterator.Consumers.{YieldsList-from_first}
use Rattle.hdl_msg.specs.Views.{values_of}
use Rattle.hdl_ops.specs.Proven.{misses_at}
use Rattle.hdl_ops.proofs.proven.any_missing_for.Goals as goal

pub returns : goal.returns
returns c = any_from_yields_List (λ n. misses_at c.args.values.now n.index) c.any.new.self _ c.any.result c.any.ensures.ran (YieldsList-from_first (λ x. x) values_of {s = c.args.news} (values_of c.args.news) refl) (λ x b q k. search (rules, tests))
