-- The changes that messages make.
use Rattle.std.specs.Prelude.{ℕ, List, [], ◌∷◌, if◌then◌else◌, Result, Ok, Err, ok_or}
use Rattle.hdl_name.specs.Tests.{is_handle}
use Rattle.hdl_value.specs.declared.value.Value.{Value}
use Rattle.hdl_value.specs.declared.wire.Wire.TheVariants.{Profile}
use Rattle.hdl_value.specs.Tests.{is_sound}
use Rattle.hdl_msg.specs.Message.{Operation, create, delete, add, remove, modify}
use Rattle.hdl_msg.specs.Reading.{request_at}
use Rattle.hdl_ops.specs.declared.change.Change.{Change}
use Rattle.hdl_ops.specs.declared.change.Change.TheVariants.{Create, Delete, Add, Remove, Modify}
use Rattle.hdl_journal_entries.specs.declared.changes.DatedChange.{DatedChange}
use Rattle.hdl_journal_entries.specs.declared.entry.DatedMessage.{DatedMessage}
use Rattle.hdl_journal_entries.specs.declared.entry.EntryFault.{EntryFault}
use Rattle.hdl_journal_entries.specs.declared.entry.EntryFault.TheVariants.{NoChange}

-- what follows a step, or the fault of the step
infixl 10 ◌>>>◌
abbrev pub ◌>>>◌ : {A B : Type 0} → Result A EntryFault → (A → Result B EntryFault) → Result B EntryFault
Ok x >>> f = f x
Err e >>> f = Err e

-- the value, if it is sound
abbrev pub sound : Value → Result Value EntryFault
sound v = if is_sound v then Ok v else Err NoChange

abbrev pub values_from : List Value → Result (List Value) EntryFault
values_from [] = Ok []
values_from (v ∷ vs) = sound v >>> λ first. (values_from vs >>> λ others. Ok (first ∷ others))

-- the handle, if it is a name
abbrev pub named : List ℕ → Result (List ℕ) EntryFault
named handle = if is_handle handle then Ok handle else Err NoChange

-- the change that an operation makes
abbrev pub change_by : Operation → Result Change EntryFault
change_by (create handle values) = named handle >>> λ name. (values_from values >>> λ vs. Ok (Create name vs))
change_by (delete handle) = named handle >>> λ name. Ok (Delete name)
change_by (add handle values) = named handle >>> λ name. (values_from values >>> λ vs. Ok (Add name vs))
change_by (remove handle indexes) = named handle >>> λ name. Ok (Remove name indexes)
change_by (modify handle values) = named handle >>> λ name. (values_from values >>> λ vs. Ok (Modify name vs))
change_by _ = Err NoChange

-- the change that a message makes
unfoldable pub change_in : List ℕ → Result Change EntryFault
change_in message = ok_or (request_at Profile message) NoChange >>> λ c. change_by c.operation

abbrev pub dated_in : DatedMessage → Result DatedChange EntryFault
dated_in m = change_in m.message >>> λ change. Ok (record { moment = m.moment; change = change })

-- those of messages, in their order
abbrev pub changes_in : List DatedMessage → Result (List DatedChange) EntryFault
changes_in [] = Ok []
changes_in (m ∷ ms) = dated_in m >>> λ first. (changes_in ms >>> λ others. Ok (first ∷ others))
