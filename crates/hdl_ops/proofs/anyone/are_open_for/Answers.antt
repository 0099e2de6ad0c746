use Rattle.std.proofs.Common.{not, ◌&&◌, refl, rules, tests}
use Rattle.std.proofs.lemmas.Iterator.Search.{all_from_yields_List}
use Rattle.std.proofs.lemmas.Iterator.Consumers.{YieldsList-from_first}
use Rattle.hdl_msg.specs.Views.{values_of}
use Rattle.hdl_value.specs.Refs.{is_admin}
use Rattle.hdl_ops.specs.Anyone.{is_open}
use Rattle.hdl_ops.specs.TableViews.{passes_at}
use Rattle.hdl_ops.proofs.anyone.are_open_for.Goals as goal

pub returns : goal.returns
returns c = all_from_yields_List (λ n. not (is_admin n) && passes_at is_open c.args.values.now n.index) c.all.new.self _ c.all.result c.all.ensures.ran (YieldsList-from_first (λ x. x) values_of {s = c.args.news} (values_of c.args.news) refl) (λ x b q k. search (rules, tests))
