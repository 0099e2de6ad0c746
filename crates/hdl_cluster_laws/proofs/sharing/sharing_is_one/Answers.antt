use Rattle.hdl_cluster_laws.specs.Shared.{stages_of, turns_at_the_end}
use Rattle.hdl_cluster_laws.proofs.Following.{theirs_of}
use Rattle.hdl_cluster_laws.proofs.sharing.sharing_is_one.Goals as goal

pub returns : goal.returns
returns c = λ number servers worlds whole parts changes apart rootless has theirs are along.
    c.servers_are_one.ensures number servers worlds whole (stages_of parts changes) (turns_at_the_end parts changes) apart rootless has (theirs_of servers parts changes theirs)
    (c.shared_are_histories.ensures servers worlds parts changes are along)
