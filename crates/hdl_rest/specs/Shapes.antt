-- Which members the objects of a record may have: no other one is passed over.
use Rattle.std.specs.Prelude.{ℕ, Bool, true, false, ◌&&◌, ◌||◌, List, codes, bytes_eq, Option, Some, None}
use Rattle.std.specs.List.{list_all}
use Rattle.serde_json.specs.Data.{Data, null, boolean, number, string, array, object, Items, Members, no_members, member}
use Rattle.serde_json.specs.Find.{get, as_array}
use Rattle.hdl_rest.specs.declared.shapes.Shape.{Shape}
use Rattle.hdl_rest.specs.declared.shapes.Shape.TheVariants.{Body, Entry, Admin, Reference}
use Rattle.hdl_rest.specs.declared.shapes.Shape.TheVariants as shape
use Rattle.hdl_rest.specs.Data.{each}

-- an object of this kind may have a member of this name
abbrev pub has : Shape → List ℕ → Bool
has Body key = bytes_eq key (codes "values") || (bytes_eq key (codes "handle") || bytes_eq key (codes "responseCode"))
has Entry key =
    bytes_eq key (codes "index") || (bytes_eq key (codes "type") || (bytes_eq key (codes "data") || (bytes_eq key (codes "ttl") || (bytes_eq key (codes "permissions") || bytes_eq key (codes "timestamp")))))
has shape.Data key = bytes_eq key (codes "format") || bytes_eq key (codes "value")
has Admin key = bytes_eq key (codes "handle") || (bytes_eq key (codes "index") || bytes_eq key (codes "permissions"))
has Reference key = bytes_eq key (codes "handle") || bytes_eq key (codes "index")

abbrev pub members_fit : Shape → Members → Bool
members_fit s no_members = true
members_fit s (member key d ms) = has s key && members_fit s ms

-- what is an object has no other members
abbrev pub fits : Shape → Data → Bool
fits s null = true
fits s (boolean b) = true
fits s (number n) = true
fits s (string text) = true
fits s (array ds) = true
fits s (object ms) = members_fit s ms

-- ---- a value, its data, and what a format tells

abbrev pub list_fits : List Data → Bool
list_fits ds = list_all (fits Reference) ds

abbrev pub told_by : Option Items → Data → Bool
told_by None d = fits Admin d
told_by (Some ds) d = list_fits (each ds)

abbrev pub told_fits : Data → Bool
told_fits d = told_by (as_array d) d

abbrev pub all_of : (Data → Bool) → Option Data → Bool
all_of good None = true
all_of good (Some d) = good d

abbrev pub data_fits : Data → Bool
data_fits d = fits shape.Data d && all_of told_fits (get (codes "value") d)

abbrev pub entry_fits : Data → Bool
entry_fits d = fits Entry d && all_of data_fits (get (codes "data") d)

abbrev pub all_fit : List Data → Bool
all_fit ds = list_all entry_fits ds
