use Rattle.std.proofs.Common.{sym, subst}
use denote.Exit.{no}
use denote.Param.Send.{param_send, arg_send, sendable}
use Rattle.sqlite.specs.Files.{file_state}
use Rattle.hdl_rows.specs.Table.{Table}
use Rattle.hdl_rows.specs.Write.{CanWrite}
use Rattle.hdl_durablerows.specs.Durable.{IsKept, LeavesIn}
use Rattle.hdl_durablerows.specs.Writes.{write_in}
use Rattle.hdl_durablerows.proofs.Sent.{job_send, returned_send}
use Rattle.hdl_durablerows.proofs.threaded.start.Goals as goal

pub spawn_with-requires-send-F : goal.spawn_with-requires-send-F
spawn_with-requires-send-F g c κs within = param_send 2 _ (arg_send _ no _ (job_send _))

pub spawn_with-requires-send-T : goal.spawn_with-requires-send-T
spawn_with-requires-send-T g c κs within = search (returned_send, sendable)

pub spawn_with-requires-clause-keeps : goal.spawn_with-requires-clause-keeps
spawn_with-requires-clause-keeps g c κs within r left =
    subst (λ f. LeavesIn (file_state f.rows) (file_state r.file.rows) (write_in c.of-2.result.value) r.state) (sym c.of.ensures) (subst (λ v. LeavesIn (file_state c.args.file.rows) (file_state r.file.rows) (write_in v) r.state) (sym c.of-2.ensures) left)

pub job-requires : goal.job-requires
job-requires g c = subst (λ v. (x : Table) × IsKept x (file_state v.0.rows) × CanWrite x (write_in v.1)) (sym c.in-Err.ensures.err) c.requires.can

pub returns-in-Err-clause-made : goal.returns-in-Err-clause-made
returns-in-Err-clause-made g c = subst (λ v. LeavesIn (file_state v.0.rows) (file_state c.job.result.file.rows) (write_in v.1) c.job.result.state) c.in-Err.ensures.err c.job.ensures
