-- What a publisher's replies rest on: restricted worlds, covers, quiet runs, and twins.
use Rattle.std.specs.Prelude.{◌≡◌, ℕ, List, [], ◌∷◌, ◌++◌, Bool, false, not, ◌==◌, ◌&&◌, ◌||◌, Option, Some, None, if◌then◌else◌, map, filter, is_some, option_map, IsTrue, IsFalse, ⊤}
use Rattle.std.specs.List.{list_any}
use Rattle.std.specs.FinMap as map
use Rattle.std.specs.FinSet as set
use Rattle.hdl_name.specs.Name.{prefix}
use Rattle.hdl_value.specs.declared.value.Value.{Value}
use Rattle.hdl_value.specs.Permission.{is_public, is_kept}
use Rattle.hdl_value.specs.Place.{Place, same_handle}
use Rattle.hdl_value.specs.Refs.{refs_of}
use Rattle.hdl_rows.specs.Table.{Table, has, at}
use Rattle.hdl_reach.specs.Reach.{is_among}
use Rattle.hdl_reach.specs.Laws.{IsOnward, AgreeAt}
use Rattle.hdl_msg.specs.Codes.{response_number}
use Rattle.hdl_msg.specs.declared.codes.ResponseCode.TheVariants.{Success, ServerBusy, ProtocolError}
use Rattle.hdl_msg.specs.Message.{Content}
use Rattle.hdl_msg.specs.Laws.{response_code_at}
use Rattle.hdl_ops.specs.declared.change.Change.{Change}
use Rattle.hdl_ops.specs.declared.change.Change.TheVariants.{Create, Delete, Add, Remove, Modify}
use Rattle.hdl_ops.specs.Requests.{resolves, handle_of}
use Rattle.hdl_events.specs.declared.Event.{Event}
use Rattle.hdl_events.specs.declared.Outcome.{Outcome}
use Rattle.hdl_events.specs.declared.Outcome.TheVariants.{Reply, Busy, Silent, CloseAfter}
use Rattle.hdl_laws.specs.Worlds.{World, Site, owner, hosts, lane_profile_for, lane_of}
use Rattle.hdl_laws.specs.Tasks.{Task, IsTask, Ignore, Break, Malformed, Unknown, Late, Deny, Ask, Inform, Redeem}
use Rattle.hdl_laws.specs.Steps.{Turn}
use Rattle.hdl_laws.specs.Runs.{is_busy}

-- a lane's owner is this publisher
abbrev pub is_owned_by : Option ℕ → ℕ → Bool
is_owned_by None publisher = false
is_owned_by (Some other) publisher = other == publisher

-- the lane is the publisher's
abbrev pub owns : Site → ℕ → ℕ → Bool
owns site publisher lane = is_owned_by (owner site lane) publisher

-- the event is on a lane of the publisher
abbrev pub is_mine : Site → ℕ → Event → Bool
is_mine site publisher event = owns site publisher event.lane

-- ---- the restricted world

-- the foreign handles at which a value of the cover stands
abbrev pub foreign_handles : (List ℕ → Bool) → List Place → Table → List (List ℕ)
foreign_handles hosted cover table = map (λ place. place.handle) (filter (λ place. not (hosted (prefix place.handle)) && is_some (at table place)) cover)

-- the place is a row's of a hosted prefix, or in the cover
abbrev pub is_retained : (List ℕ → Bool) → List Place → Place → Bool
is_retained hosted cover place = hosted (prefix place.handle) || is_among place cover

-- the rows of the hosted prefixes and the values at the cover; a foreign handle is there just where such a value is
unfoldable pub restrict_table : (List ℕ → Bool) → List Place → Table → Table
restrict_table hosted cover table = record {
  handles = set.union (set.retain table.handles (λ handle. hosted (prefix handle))) (set.from_list (foreign_handles hosted cover table));
  values = map.retain_keys table.values (is_retained hosted cover);
}

-- the publisher's lanes, prefixes, layout and site information, and whether changes are taken
abbrev pub restrict_site : Site → ℕ → Site
restrict_site site publisher = record {
  owners = map.retain_keys site.owners (owns site publisher);
  hostings = filter (λ hosting. hosting.publisher == publisher) site.hostings;
  layouts = map.retain_keys site.layouts (λ other. other == publisher);
  sites = filter (λ line. line.publisher == publisher) site.sites;
  takes_changes = site.takes_changes;
}

-- what the publisher has of the world, and the values at the cover
abbrev pub restrict : World → ℕ → List Place → World
restrict world publisher cover = record {
  site = restrict_site world.site publisher;
  table = restrict_table (hosts world.site publisher) cover world.table;
  lanes = map.retain_keys world.lanes (owns world.site publisher);
}

-- the turn is the publisher's, and wasn't answered busy
abbrev pub is_turn_of : Site → ℕ → Turn → Bool
is_turn_of site publisher step = is_mine site publisher step.event && not (is_busy step.outcome)

-- the publisher's turns that weren't answered busy, in order
abbrev pub turns_of : Site → ℕ → List Turn → List Turn
turns_of site publisher turns = filter (is_turn_of site publisher) turns

-- ---- covers

-- each of these places is in the cover
abbrev pub Covers : List Place → List Place → Type 0
Covers cover places = (place : Place) → IsTrue (is_among place places) → IsTrue (is_among place cover)

-- each place that one of these values refers to is in the cover
abbrev pub EachCovered : List Place → List Value → Type 0
EachCovered cover [] = ⊤
EachCovered cover (value ∷ values) = Covers cover (refs_of value) × EachCovered cover values

-- the values that a change writes
abbrev pub changed_values : Change → List Value
changed_values (Create name values) = values
changed_values (Delete name) = []
changed_values (Add name values) = values
changed_values (Remove name indexes) = []
changed_values (Modify name values) = values

-- the same where there is a change, and none where there is none
abbrev pub values_written : Option Change → List Value
values_written None = []
values_written (Some change) = changed_values change

-- the values in the changes that events of the publisher's lanes made
abbrev pub own_writes : Site → ℕ → List Turn → List Value
own_writes site publisher [] = []
own_writes site publisher (step ∷ turns) = (if is_mine site publisher step.event then values_written step.change else []) ++ own_writes site publisher turns

-- the cover holds what the rows of the hosted prefixes refer to, and with each of its places what is listed there
pub record IsClosed (hosted : List ℕ → Bool) (cover : List Place) (table : Table) : Type 0 where
  pub rows : (place : Place) (value : Value) → IsTrue (hosted (prefix place.handle)) → at table place ≡ Some value → Covers cover (refs_of value)
  pub onward : IsOnward table cover

-- the cover is closed at the start, and holds what the values refer to that the publisher writes
pub record IsCover (publisher : ℕ) (cover : List Place) (world : World) (turns : List Turn) : Type 0 where
  pub start : IsClosed (hosts world.site publisher) cover world.table
  pub written : EachCovered cover (own_writes world.site publisher turns)

-- ---- quiet runs

-- two tables agree on the rows of the hosted prefixes and at the cover
pub record Agrees (hosted : List ℕ → Bool) (cover : List Place) (before after : Table) : Type 0 where
  pub handles : (handle : List ℕ) → IsTrue (hosted (prefix handle)) → has before handle ≡ has after handle
  pub rows : (place : Place) → IsTrue (hosted (prefix place.handle)) → at before place ≡ at after place
  pub covered : AgreeAt before after cover

-- no event of another lane changes a row of the publisher, or what stands at the cover
abbrev pub IsQuiet : Site → ℕ → List Place → World → List Turn → Type 0
IsQuiet site publisher cover world [] = ⊤
IsQuiet site publisher cover world (step ∷ turns) = (IsFalse (is_mine site publisher step.event) → Agrees (hosts site publisher) cover world.table step.after.table) × IsQuiet site publisher cover step.after turns

-- ---- twins

-- the handle is one of those for which a resolution was authorised
abbrev pub is_authorised : List (List ℕ) → List ℕ → Bool
is_authorised authorised handle = list_any (same_handle handle) authorised

-- the value may be read: it is public, or kept at such a handle
abbrev pub may_be_read : List (List ℕ) → List ℕ → Value → Bool
may_be_read authorised handle value = is_public value || (is_kept value && is_authorised authorised handle)

-- the index and the permission alone
abbrev pub without_content : Value → Value
without_content value = record { index = value.index; kind = []; bytes = []; ttl = []; permissions = value.permissions; timestamp = 0; references = [] }

-- what may be read of a value at the handle
abbrev pub readable : List (List ℕ) → List ℕ → Value → Value
readable authorised handle value = if may_be_read authorised handle value then value else without_content value

-- the same handles, the same indexes and permissions, and equal values where they may be read
pub record AreTwins (authorised : List (List ℕ)) (one other : Table) : Type 0 where
  pub handles : one.handles ≡ other.handles
  pub values : (place : Place) → option_map (readable authorised place.handle) (at one place) ≡ option_map (readable authorised place.handle) (at other place)

-- worlds that are equal but for their tables, which are twins
pub record AreTwinWorlds (authorised : List (List ℕ)) (one other : World) : Type 0 where
  pub site : one.site ≡ other.site
  pub lanes : one.lanes ≡ other.lanes
  pub tables : AreTwins authorised one.table other.table

-- a reply's ResponseCode, and a number for each other outcome
abbrev pub code_of : Outcome → ℕ
code_of (Reply octets) = response_code_at octets
code_of (Busy octets) = response_number ServerBusy
code_of Silent = 0
code_of (CloseAfter octets) = response_number ProtocolError

-- the challenged request that a task decides
abbrev pub proven_request : Task → Option Content
proven_request (Redeem message request proof state) = Some request
proven_request (Ignore state) = None
proven_request (Break session request state) = None
proven_request (Malformed message state) = None
proven_request (Unknown message request state) = None
proven_request (Late message request algorithm state) = None
proven_request (Deny message request state) = None
proven_request (Ask message request state) = None
proven_request (Inform message request site state) = None

-- if the event's task decides a challenged resolution, and its outcome has code Success, then the resolution's handle is authorised
abbrev pub AllowsTurn : List (List ℕ) → World → Turn → Type 0
AllowsTurn authorised world step =
    (task : Task) (request : Content) → IsTask (lane_profile_for world.site (owner world.site step.event.lane)) (lane_of world step.event.lane) step.event.what task → proven_request task ≡ Some request → IsTrue (resolves request.operation) → code_of step.outcome ≡ response_number Success → IsTrue (is_authorised authorised (handle_of request))

-- so is the handle of each challenged resolution that is answered Success
abbrev pub Allows : List (List ℕ) → World → List Turn → Type 0
Allows authorised world [] = ⊤
Allows authorised world (step ∷ turns) = AllowsTurn authorised world step × Allows authorised step.after turns
