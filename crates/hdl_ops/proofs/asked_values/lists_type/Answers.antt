use Rattle.std.proofs.Common.{refl, rules, tests}
use Rattle.std.proofs.lemmas.Iterator.Search.{any_from_yields_List}
use Rattle.std.proofs.lemmas.Iterator.Consumers.{YieldsList-from_first}
use Rattle.hdl_msg.specs.Views.{strings_of}
use Rattle.hdl_ops.specs.TableViews.{matches}
use Rattle.hdl_ops.proofs.asked_values.lists_type.Goals as goal

pub returns : goal.returns
returns c = any_from_yields_List (λ t. matches t c.args.kind.now) c.any.new.self _ c.any.result c.any.ensures.ran (YieldsList-from_first (λ t. t.now) strings_of {s = c.args.types} (strings_of c.args.types) refl) (λ x b q k. search (rules, tests))
