-- One step of the service as a machine: a world, an event, its outcome, the world after it.
use Rattle.std.specs.Prelude.{◌≡◌, ◌≢◌, ℕ, Option, Some, None, ◌⊎◌, IsTrue}
use Rattle.std.specs.FinMap as map
use Rattle.hdl_frame.specs.Envelope.{envelope_at}
use Rattle.hdl_frame.specs.Frames.{IsFrame}
use Rattle.hdl_msg.specs.Codes.{response_number}
use Rattle.hdl_msg.specs.declared.codes.ResponseCode.TheVariants.{ServerBusy}
use Rattle.hdl_msg.specs.Reply.{short_reply}
use Rattle.hdl_ops.specs.declared.change.Change.{Change}
use Rattle.hdl_ops.specs.Tables.{apply_if}
use Rattle.hdl_events.specs.declared.What.{What}
use Rattle.hdl_events.specs.declared.What.TheVariants.{Open, Bad, Close}
use Rattle.hdl_events.specs.declared.Event.{Event}
use Rattle.hdl_events.specs.declared.Outcome.{Outcome}
use Rattle.hdl_events.specs.declared.Outcome.TheVariants.{Busy, Silent}
use Rattle.hdl_laws.specs.Worlds.{World, owner, hosts, algorithms, lane_of, lane_profile}
use Rattle.hdl_laws.specs.Tasks.{Received, Task, IsTask}
use Rattle.hdl_laws.specs.Effects.{Effect, Does}

-- the moment of an event, which a change of the table is stamped with
abbrev pub moment_of : What → ℕ
moment_of Open = 0
moment_of (What.Frame peer moment nonce bytes) = moment
moment_of (Bad session request) = 0
moment_of Close = 0

-- the frame event of what was received
abbrev pub what_of : Received → What
what_of received = What.Frame received.peer received.moment received.nonce received.bytes

-- one step: the event, its outcome, the change that it made, the world after it
pub record Turn : Type 0 where
  pub event : Event
  pub outcome : Outcome
  pub change : Option Change
  pub after : World

abbrev pub after_effect : World → Event → Effect → World
after_effect world event effect = record {
  site = world.site;
  table = apply_if world.table (moment_of event.what) effect.change;
  lanes = map.insert world.lanes event.lane effect.state;
}

abbrev pub turn : World → Event → Effect → Turn
turn world event effect = record { event = event; outcome = effect.outcome; change = effect.change; after = after_effect world event effect }

-- the turn is the answer, by the lane's owner: nobody's lane is silent
abbrev pub IsAnswerFor : World → Option ℕ → Turn → Type 0
IsAnswerFor world None step = step ≡ record { event = step.event; outcome = Silent; change = None; after = world }
IsAnswerFor world (Some publisher) step =
    (effect : Effect) × (task : Task) × IsTask (lane_profile world.site publisher) (lane_of world step.event.lane) step.event.what task
    × Does (hosts world.site publisher) (algorithms world.site publisher) world.table task effect × (step ≡ turn world step.event effect)

abbrev pub IsAnswer : World → Turn → Type 0
IsAnswer world step = IsAnswerFor world (owner world.site step.event.lane) step

-- a frame on an open lane of somebody is answered busy, and the world stays
pub record IsBusy (world : World) (step : Turn) : Type 0 where
  pub received : Received
  pub frame_event : step.event.what ≡ what_of received
  pub frame : IsFrame received.bytes
  pub owned : owner world.site step.event.lane ≢ None
  pub is_open : IsTrue (lane_of world step.event.lane).is_open
  pub busy : step ≡ record { event = step.event; outcome = Busy (short_reply (response_number ServerBusy) (envelope_at received.bytes)); change = None; after = world }

abbrev pub IsStep : World → Turn → Type 0
IsStep world step = IsAnswer world step ⊎ IsBusy world step
