use Rattle.hdl_laws.specs.Worlds.{with_table}
use Rattle.hdl_laws.proofs.Isolation.{two_runs_agree}
use Rattle.hdl_core.specs.Opening.{opening_table}
use Rattle.hdl_export.proofs.laws.moved_is_answered_alike.Goals as goal

pub returns : goal.returns
returns c = λ w u cover old new ts ts' moved rootless run run' written written' quiet quiet' same.
    let w' = with_table w (opening_table new.opening) in
    (two_runs_agree w w' ts ts' u cover rootless rootless run run' (record { start = moved.closed; written = written }) (record { start = moved.closed_there; written = written' }) quiet quiet' moved.same same).0
