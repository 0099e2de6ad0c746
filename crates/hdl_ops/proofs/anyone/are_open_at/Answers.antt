use Rattle.std.proofs.Common.{refl, rules, tests}
use Rattle.std.proofs.lemmas.Iterator.Search.{all_from_yields_List}
use Rattle.std.proofs.lemmas.Iterator.Consumers.{YieldsList-from_first}
use Rattle.hdl_msg.specs.Views.{numbers_of}
use Rattle.hdl_ops.specs.Anyone.{is_open}
use Rattle.hdl_ops.specs.TableViews.{passes_at}
use Rattle.hdl_ops.proofs.anyone.are_open_at.Goals as goal

pub returns : goal.returns
returns c = all_from_yields_List (passes_at is_open c.args.values.now) c.all.new.self _ c.all.result c.all.ensures.ran (YieldsList-from_first (λ x. x) numbers_of {s = c.args.indexes} (numbers_of c.args.indexes) refl) (λ x b q k. search (rules, tests))
