-- What goes to a thread and what it gives back may be sent.
use mathlib.Core.List.{List, [], ◌∷◌}
use Prim.Native.Nat.{ℕ}
use denote.RattleType.{RattleType}
use denote.Hole.{as_row}
use denote.Param.Send.{IsSend, sendable}
use denote.Param.SendFields.{FieldsHave, as_row_send, declared_send}
use denote.Struct.Field.{row_field}
use denote.Struct.Tuple.{TupleAt, type_at}
use Rattle.std.proofs.Crossing as heap
use Rattle.std.specs.contracts.alloc.Global as memory
use Rattle.std.specs.contracts.impls.GlobalAllocator.TheImpl as allocates
use Rattle.std.specs.contracts.sync.Arc as arc
use Rattle.std.specs.contracts.sync.atomic.AtomicBool as flag
use Rattle.sqlite_trees.specs.declared.store.Store.{Ghosts}
use Rattle.sqlite.specs.contracts.FileStore as store
use Rattle.sqlite.specs.contracts.Wary as wary
use Rattle.sqlite.below.sqlite_disk.specs.contracts.modelled.Modelled as modelled
use Rattle.sqlite.below.sqlite_disk.specs.contracts.modelled.ModelledDisk.TheImpl as disk
use Rattle.sqlite.below.sqlite_disk.specs.contracts.start.WaryStart.TheImpl as begins
use Rattle.sqlite.below.sqlite_store.specs.contracts.store.FileStoreStore.TheImpl as stored
use Rattle.sqlite.below.sqlite_std_file.specs.contracts.host.Host as host
use Rattle.sqlite.below.sqlite_std_file.specs.contracts.host.HostCalls.TheImpl as calls
use Rattle.sqlite.below.sqlite_store.proofs.store.FileStore.TheSendSync as stores
use Rattle.sqlite.below.sqlite_disk.proofs.modelled.Modelled.TheSendSync as disks
use Rattle.hdl_durablerows.specs.contracts.filerows.FileRows.{the_field}
use Rattle.hdl_durablerows.proofs.filerows.FileRows.TheSendSync as rows
use Rattle.hdl_durablerows.specs.contracts.disk.DiskRows as kept
use Rattle.hdl_durablerows.specs.contracts.durable_file.WriteState as state
use Rattle.hdl_durablerows.specs.contracts.threaded.WriteOutcome as returned
use Rattle.hdl_durablerows.specs.contracts.write.OwnedWrite as own
use Rattle.hdl_durablerows.proofs.write.OwnedWrite.TheSendSync as owned

state_send : IsSend state.the_row
state_send = search sendable depth 30

host_send : IsSend host.the_row
host_send = search (sendable, heap.crosses) depth 30

disk_send : IsSend (modelled.the_row host.the_row wary.the_row calls.ghosts begins.ghosts)
disk_send = disks.the_send _ _ _ _ host_send

store_send : IsSend (store.the_row (modelled.the_row host.the_row wary.the_row calls.ghosts begins.ghosts) (disk.ghosts host.the_row wary.the_row calls.ghosts disk.no_dict begins.ghosts disk.no_dict disk.no_dict))
store_send = stores.the_send _ _ disk_send

field_send : (S : RattleType) (g : Ghosts S.Denot) → IsSend S → IsSend (as_row (the_field S g))
field_send = rows.the_send

kept_send : IsSend kept.the_row
kept_send = let fields : FieldsHave IsSend kept.the_type.parts = (field_send _ (stored.ghosts (modelled.the_row host.the_row wary.the_row calls.ghosts begins.ghosts) (disk.ghosts host.the_row wary.the_row calls.ghosts disk.no_dict begins.ghosts disk.no_dict disk.no_dict) stored.no_dict) store_send, tt) in declared_send kept.the_type fields

abbrev pub ended : RattleType
ended = arc.the_row flag.the_row memory.the_row allocates.ghosts

ended_send : IsSend ended
ended_send = search (sendable, heap.crosses) depth 30

-- what a job takes with it: the file, the write and the flag
pub job_send : (name : List ℕ) → IsSend (TupleAt name (kept.the_row ∷ own.the_row ∷ ended ∷ []))
job_send name = declared_send (type_at name (kept.the_row ∷ own.the_row ∷ ended ∷ [])) (as_row_send (row_field kept.the_row) kept_send, (as_row_send (row_field own.the_row) owned.the_send, (as_row_send (row_field ended) ended_send, tt)))

pub returned_send : IsSend returned.the_row
returned_send = let fields : FieldsHave IsSend returned.the_type.parts = (kept_send, (state_send, tt)) in declared_send returned.the_type fields
