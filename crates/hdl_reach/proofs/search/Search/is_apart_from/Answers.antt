use Rattle.hdl_name.specs.Name.{canonical}
use Rattle.hdl_reach.proofs.Stays.{search_stays, other_handle}
use Rattle.hdl_reach.proofs.search.Search.is_apart_from.Goals as goal

pub returns-in-Ok : goal.returns-in-Ok
returns-in-Ok c = λ apart t u agree is.
    let h = canonical c.args.name.now in
    search_stays h t u agree c.args.self.now (other_handle c.args.self.now h c.is_for.result c.is_for.ensures c.if-is_for.false) (c.in-Ok.ensures apart) is
