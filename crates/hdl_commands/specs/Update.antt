-- An update: which of a handle's wanted values differ from those that are there, which lack, and what is there after it.
use Rattle.std.specs.Prelude.{◌≡◌, true, ℕ, Bool, ◌==◌, ◌&&◌, not, if◌then◌else◌, List, [], ◌++◌, length, filter, All, Contains, Option, Some, None}
use Rattle.std.specs.List.{concat, list_any, find}
use Rattle.std.specs.Io.KnownBytes.{Appends}
use Rattle.std.specs.Str.{bytes_eq}
use Rattle.hdl_value.specs.declared.value.Value.{Value}
use Rattle.hdl_value.specs.declared.wire.Wire.{Wire}
use Rattle.hdl_msg.specs.declared.request_body.RequestBody.TheVariants.{Resolution}
use Rattle.hdl_msg.specs.RequestBody.{request_message}
use Rattle.hdl_client.specs.Challenge.{plain_header}
use Rattle.hdl_client.specs.Outcomes.{Run, AsksForOne}
use Rattle.hdl_client.specs.declared.challenge.Key.{Key}
use Rattle.hdl_client.specs.declared.task.Task.{Task}
use Rattle.hdl_client.specs.declared.transport.Transport.{Ghosts}
use Rattle.hdl_commands.specs.declared.imports.update.KeptFields.{KeptFields}

-- ---- what is asked first

-- the task asks for values of a handle, and changes nothing
abbrev pub IsReading : Task → Type 0
IsReading task = (wire : Wire) × (handle : List ℕ) × (indexes : List ℕ) × (types : List (List ℕ)) × (task.request.octets ≡ request_message wire plain_header (Resolution handle indexes types))

-- All that was sent are frames that ask for a reading, or that answer the challenge of one.
pub record OnlyReads {T : Type 0} (g : Ghosts T) (keys : List Key) (before after : T) : Type 0 where
  pub tasks : List Task
  pub readings : All IsReading tasks
  pub run : Run
  pub sent : Appends (g.sent before) (g.sent after) (concat run.sent)
  pub proper : All (AsksForOne keys run tasks) run.sent

-- ---- what is wanted

-- a value as it is meant beside the one that is there: what no column of the file says stays
abbrev pub meant_by : KeptFields → Option Value → Value → Value
meant_by kept None w = w
meant_by kept (Some v) w = record w { ttl = if kept.ttl then v.ttl else w.ttl; permissions = if kept.permissions then v.permissions else w.permissions }

-- the value with this index
abbrev pub value_at : ℕ → List Value → Option Value
value_at index vs = find (λ v. v.index == index) vs

abbrev pub meant : KeptFields → List Value → Value → Value
meant kept there w = meant_by kept (value_at w.index there) w

-- ---- what is sent

-- one of these has this index
abbrev pub has_index : ℕ → List Value → Bool
has_index index vs = list_any (λ v. v.index == index) vs

-- the value is as it is wanted, whenever it was written; neither has references
abbrev pub is_same : Value → Value → Bool
is_same v w =
    v.index == w.index && (bytes_eq v.kind w.kind && (bytes_eq v.bytes w.bytes && (bytes_eq v.ttl w.ttl && (v.permissions == w.permissions && (length v.references == 0 && length w.references == 0)))))

-- a value that is there is as it is wanted
abbrev pub is_there : List Value → Value → Bool
is_there there w = list_any (λ v. is_same v w) there

-- its index is there, with another value
abbrev pub is_changed : List Value → Value → Bool
is_changed there w = has_index w.index there && not (is_there there w)

-- the wanted values that are to be modified, and those that are to be added
abbrev pub changed : List Value → List Value → List Value
changed there wanted = filter (λ w. is_changed there w) wanted

abbrev pub lacking : List Value → List Value → List Value
lacking there wanted = filter (λ w. not (has_index w.index there)) wanted

-- ---- what is there afterwards

-- a modification puts values in the place of those with their indexes, and an addition puts others beside them
abbrev pub modified : List Value → List Value → List Value
modified there vs = filter (λ v. not (has_index v.index vs)) there ++ vs

abbrev pub after : List Value → List Value → List Value
after there wanted = modified there (changed there wanted) ++ lacking there wanted

-- those that have no wanted value's index
abbrev pub others : List Value → List Value → List Value
others vs wanted = filter (λ v. not (has_index v.index wanted)) vs

-- no two have one index
abbrev pub AreDistinct : List Value → Type 0
AreDistinct vs = (v w : Value) → Contains vs v → Contains vs w → v.index ≡ w.index → v ≡ w

-- After an update each wanted value is there as it is wanted, and the others are as they were; if all were there, nothing is sent.
pub record Updates (there wanted : List Value) : Type 0 where
  pub wanted_are_there : All (λ w. is_there (after there wanted) w ≡ true) wanted
  pub others_stay : others (after there wanted) wanted ≡ others there wanted
  pub nothing_twice : All (λ w. is_there there w ≡ true) wanted → (changed there wanted ≡ []) × (lacking there wanted ≡ [])

-- of values without references, as rows say them
abbrev pub UpdateIsRight : Type 0
UpdateIsRight = (there wanted : List Value) → AreDistinct wanted → All (λ w. w.references ≡ []) wanted → Updates there wanted
