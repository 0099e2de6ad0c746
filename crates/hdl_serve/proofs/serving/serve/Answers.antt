use Rattle.hdl_serve.proofs.Lanes.{served, not_parted}
use Rattle.hdl_serve.proofs.serving.serve.Goals as goal

pub returns-clause-served : goal.returns-clause-served
returns-clause-served g c = served c.restricted.ensures.alone c.twin_replies.ensures _ _ _ _ c.root_is_unhosted.ensures c.serve_shared.ensures.shared

pub returns-clause-ended : goal.returns-clause-ended
returns-clause-ended g c = not_parted c.serve_shared.result.end _ c.serve_shared.ensures.over c.serve_shared.ensures.parted
