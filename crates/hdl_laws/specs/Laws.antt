-- The laws over whole runs.
use Rattle.std.specs.Prelude.{◌≡◌, ◌≢◌, ℕ, List, [], ◌∷◌, ◌++◌, map, IsFalse, IsTrue, ⊤}
use Rattle.hdl_name.specs.Name.{prefix}
use Rattle.hdl_value.specs.Place.{Place}
use Rattle.hdl_reach.specs.Reach.{is_among}
use Rattle.hdl_tenants.specs.Register.{root}
use Rattle.hdl_events.specs.declared.Event.{Event}
use Rattle.hdl_events.specs.declared.Outcome.{Outcome}
use Rattle.hdl_laws.specs.Worlds.{World, Site, hosts}
use Rattle.hdl_laws.specs.Steps.{Turn}
use Rattle.hdl_laws.specs.Runs.{IsRun, HasRun, HasRunWithoutBusy, last, events, outcomes}
use Rattle.hdl_laws.specs.Isolation.{IsClosed, IsCover, IsQuiet, is_mine, restrict, turns_of, AreTwinWorlds, Allows, code_of}

-- two runs in a row are one run
abbrev pub JoinsRuns : Type 0
JoinsRuns = (world mid new : World) (es es' : List Event) (os os' : List Outcome) → HasRun world es os mid → HasRun mid es' os' new → HasRun world (es ++ es') (os ++ os') new

-- ---- isolation

-- nobody hosts the prefix of the administrative handles
abbrev pub HostsNoRoot : Site → Type 0
HostsNoRoot site = (publisher : ℕ) → IsFalse (hosts site publisher root)

-- the cover is closed in the first world and in each that a turn leaves
abbrev pub ClosedAlong : ℕ → List Place → World → List Turn → Type 0
ClosedAlong publisher cover world [] = IsClosed (hosts world.site publisher) cover world.table
ClosedAlong publisher cover world (step ∷ turns) = IsClosed (hosts world.site publisher) cover world.table × ClosedAlong publisher cover step.after turns

-- in each world of a quiet run a cover is closed
abbrev pub KeepsCovers : Type 0
KeepsCovers = (world : World) (turns : List Turn) (publisher : ℕ) (cover : List Place) → IsRun world turns → IsCover publisher cover world turns → IsQuiet world.site publisher cover world turns → ClosedAlong publisher cover world turns

-- for each publisher and each cover for it, where the run is quiet: its outcomes and what it has of the last world are those of
-- its events alone, none of them answered busy, from what it has of the first world and the values at the cover
abbrev pub Isolates : World → List Turn → Type 0
Isolates world turns =
    (publisher : ℕ) (cover : List Place) → IsCover publisher cover world turns → IsQuiet world.site publisher cover world turns
    → HasRunWithoutBusy (restrict world publisher cover) (events (turns_of world.site publisher turns)) (outcomes (turns_of world.site publisher turns)) (restrict (last world turns) publisher cover)

-- the events with these outcomes isolate each publisher, whatever run they are
abbrev pub Isolated : World → List Event → List Outcome → Type 0
Isolated world es os = (turns : List Turn) → IsRun world turns → events turns ≡ es → outcomes turns ≡ os → Isolates world turns

-- each run isolates each publisher
abbrev pub RestrictsRuns : Type 0
RestrictsRuns = (world : World) (turns : List Turn) → HostsNoRoot world.site → IsRun world turns → Isolates world turns

-- a run in which no event is answered busy is determined by its events
abbrev pub RunWithoutBusyIsOne : Type 0
RunWithoutBusyIsOne = (world new new' : World) (es : List Event) (os os' : List Outcome) → HasRunWithoutBusy world es os new → HasRunWithoutBusy world es os' new' → (os ≡ os') × (new ≡ new')

-- two quiet runs that agree in the publisher's events and in the restricted first worlds give it equal outcomes, and end in equal restricted
-- worlds
abbrev pub TwoRunsAgree : Type 0
TwoRunsAgree =
    (world world' : World) (turns turns' : List Turn) (publisher : ℕ) (cover : List Place) → HostsNoRoot world.site → HostsNoRoot world'.site → IsRun world turns → IsRun world' turns'
    → IsCover publisher cover world turns → IsCover publisher cover world' turns' → IsQuiet world.site publisher cover world turns → IsQuiet world'.site publisher cover world' turns'
    → restrict world publisher cover ≡ restrict world' publisher cover → events (turns_of world.site publisher turns) ≡ events (turns_of world'.site publisher turns')
    → (outcomes (turns_of world.site publisher turns) ≡ outcomes (turns_of world'.site publisher turns')) × (restrict (last world turns) publisher cover ≡ restrict (last world' turns') publisher cover)

-- ---- twins

-- runs of the same events from twins, with the same codes, have the same octets and end in twins
abbrev pub HidesUnread : World → List Turn → Type 0
HidesUnread world turns =
    (authorised : List (List ℕ)) (twin : World) (turns' : List Turn) → Allows authorised world turns → AreTwinWorlds authorised world twin → IsRun twin turns' → events turns ≡ events turns' → map code_of (outcomes turns) ≡ map code_of (outcomes turns')
    → (outcomes turns ≡ outcomes turns') × AreTwinWorlds authorised (last world turns) (last twin turns')

-- the events with these outcomes hide what may not be read, whatever run they are
abbrev pub Hidden : World → List Event → List Outcome → Type 0
Hidden world es os = (turns : List Turn) → IsRun world turns → events turns ≡ es → outcomes turns ≡ os → HidesUnread world turns

-- each run hides what may not be read
abbrev pub TwinsReplyAlike : Type 0
TwinsReplyAlike = (world : World) (turns : List Turn) → IsRun world turns → HidesUnread world turns

-- in a run of a world that takes no changes the table stays
abbrev pub ReadsOnly : Type 0
ReadsOnly = (world : World) (turns : List Turn) → IsFalse world.site.takes_changes → IsRun world turns → (last world turns).table ≡ world.table

-- each run has a cover for each publisher
abbrev pub HasCover : Type 0
HasCover = (world : World) (turns : List Turn) (publisher : ℕ) → (cover : List Place) × IsCover publisher cover world turns

-- no other publisher hosts a prefix of the publisher, or that of a place of the cover
pub record IsUnshared (site : Site) (publisher : ℕ) (cover : List Place) : Type 0 where
  pub own : (other : ℕ) (handle : List ℕ) → other ≢ publisher → IsTrue (hosts site publisher (prefix handle)) → IsFalse (hosts site other (prefix handle))
  pub covered : (other : ℕ) (place : Place) → other ≢ publisher → IsTrue (is_among place cover) → IsFalse (hosts site other (prefix place.handle))

-- then each run is quiet, whatever others send
abbrev pub UnsharedIsQuiet : Type 0
UnsharedIsQuiet =
    (world : World) (turns : List Turn) (publisher : ℕ) (cover : List Place) → IsRun world turns → IsUnshared world.site publisher cover → IsQuiet world.site publisher cover world turns

-- no event of another lane changes the table
abbrev pub IsCalm : Site → ℕ → World → List Turn → Type 0
IsCalm site publisher world [] = ⊤
IsCalm site publisher world (step ∷ turns) = (IsFalse (is_mine site publisher step.event) → step.after.table ≡ world.table) × IsCalm site publisher step.after turns

-- such a run is quiet for every cover
abbrev pub CalmIsQuiet : Type 0
CalmIsQuiet = (site : Site) (publisher : ℕ) (cover : List Place) (world : World) (turns : List Turn) → IsCalm site publisher world turns → IsQuiet site publisher cover world turns
