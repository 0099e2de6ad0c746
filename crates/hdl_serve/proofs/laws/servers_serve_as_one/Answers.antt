use Rattle.std.proofs.Common.{ℕ, ◌<◌, sym, subst}
use Rattle.std.specs.List.{AllZip}
use Rattle.hdl_laws.specs.Runs.{events, outcomes}
use Rattle.hdl_cluster_laws.specs.Shared.{AreParts, FollowsList}
use Rattle.hdl_serve.specs.Served.{LaneServed}
use Rattle.hdl_serve.proofs.Followed.{follow}
use Rattle.hdl_serve.proofs.Behind.{behind_are, behind_takes, behind_turns}
use Rattle.hdl_serve.proofs.laws.servers_serve_as_one.Goals as goal

pub returns : goal.returns
returns c = λ number servers worlds before after whole parts taken changes apart rootless has among shared.
    let are : (server : ℕ) → server < servers → AreParts (worlds server) (parts server) = λ server is.
    behind_are (worlds server) (before server) (after server) (parts server) (taken server) (shared server is).0 in
    let along : (server : ℕ) → server < servers → FollowsList server (parts server) changes =
    follow servers (λ r e. worlds r) (λ r e. parts r) (λ r e. taken r) changes whole.table (λ r e. sym (has r).table) among are
    (λ r e. behind_takes (worlds r) (before r) (after r) (parts r) (taken r) (shared r e).0) (λ r e. (shared r e).1) in (
      c.sharing_is_one.ensures number servers worlds whole parts changes apart rootless has among are along,
      λ server is.
          let s = (shared server is).0 in
          subst (λ turns. AllZip (LaneServed (events turns) (outcomes turns)) (before server) (after server)) (sym (c.keeps_turns.ensures servers parts changes server is (along server is)))
          (subst (λ turns. AllZip (LaneServed (events turns) (outcomes turns)) (before server) (after server)) (sym (behind_turns (worlds server) (before server) (after server) (parts server) (taken server) s)) s.served.lanes),
    )
