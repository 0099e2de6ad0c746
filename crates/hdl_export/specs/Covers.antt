-- The places on which a publisher's answers rest, as they are kept.
use Rattle.std.specs.Prelude.{◌≡◌, List, IsTrue}
use Rattle.std.specs.BTreeSet.{BTreeSet, contains}
use Rattle.hdl_value.specs.declared.value.Value.{Value}
use Rattle.hdl_value.specs.Place.{Place}
use Rattle.hdl_rows.specs.Table.{Table}
use Rattle.hdl_reach.specs.Laws.{IsOnward}
use Rattle.hdl_reach.specs.Reach.{is_among}
use Rattle.hdl_reach.specs.Seen.{places, PlaceKey, place_at, key_cmp}
use Rattle.hdl_laws.specs.Isolation.{Covers, EachCovered}
use Rattle.hdl_export.specs.declared.cover.Cover.{Cover}

abbrev pub places_in : Cover → List Place
places_in c = places c.references.items

-- the keys are those of these places
abbrev pub HasKeys : BTreeSet PlaceKey → List Place → Type 0
HasKeys keys seen = (k : PlaceKey) → contains key_cmp keys k ≡ is_among (place_at k) seen

-- the keys are those of the references
abbrev pub AreKept : Cover → Type 0
AreKept c = HasKeys c.keys (places_in c)

-- ---- no more than is needed

-- These values refer to each of the places: whatever holds all to which they refer has it.
abbrev pub AreReferred : List Value → List Place → Type 0
AreReferred values cover = (other : List Place) → EachCovered other values → Covers other cover

-- The place is a start, or lists lead from one to it: whatever holds the starts, and with each of its places what is listed there, has it.
abbrev pub IsLed : Table → List Place → Place → Type 0
IsLed t starts place = (other : List Place) → Covers other starts → IsOnward t other → IsTrue (is_among place other)

abbrev pub AreLed : Table → List Place → List Place → Type 0
AreLed t starts cover = (place : Place) → IsTrue (is_among place cover) → IsLed t starts place

-- The places are no more than these values rest on: whatever holds all to which they refer, and with each of its places what is listed there, has them all.
abbrev pub IsLeast : Table → List Value → List Place → Type 0
IsLeast t values cover = (other : List Place) → EachCovered other values → IsOnward t other → Covers other cover
