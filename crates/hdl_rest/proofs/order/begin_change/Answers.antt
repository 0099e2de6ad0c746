use Rattle.hdl_proxy.specs.Query.{texts_of}
use Rattle.hdl_rest.proofs.order.begin_change.Goals as goal

pub returns-then-not-are_known : goal.returns-then-not-are_known
returns-then-not-are_known c = c.unknown_word.ensures c.args.sent.method.now (texts_of c.args.pairs.now)
