use Rattle.hdl_workers.proofs.Faults.{finds_fault}
use Rattle.hdl_workers.proofs.stream.find.Goals as goal

pub returns-in-Err-clause-found : goal.returns-in-Err-clause-found
returns-in-Err-clause-found g c =
    let t = c.next_frame.follows.holds-at-none in
    finds_fault _ _ _ _ (rw c.in-Err.is at t).0 c.numbers.ensures
