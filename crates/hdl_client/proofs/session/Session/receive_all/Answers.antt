use Rattle.std.proofs.Common.{rules}
use Rattle.hdl_client.proofs.session.Session.receive_all.Goals as goal

pub replies-init : goal.replies-init
replies-init g c = (search rules, λ start begun tasks run r. (run, r))

pub replies-preserved : goal.replies-preserved
replies-preserved g c = (
  search rules,
  λ start begun tasks run r.
      let before = c.replies.invariant.1 start begun tasks run r in
      c.in_ok-receive_one.ensures.goes_on start begun tasks before.0 before.1,
)
