use Rattle.hdl_proxy.specs.Query.{pairs_of}
use Rattle.hdl_rest.proofs.order.begin_changing.Goals as goal

pub returns-in-None : goal.returns-in-None
returns-in-None c = c.other_method.ensures c.args.sent.method.now (pairs_of c.args.sent.query.now)
