-- Which locations a value says, and which of them is chosen.
use Rattle.std.specs.Prelude.{◌≡◌, ◌<◌, ◌⊎◌, ℕ, Bool, true, false, List, [], ◌++◌, All, codes, Contains, Option, Some, None, max, if◌then◌else◌}
use Rattle.std.specs.List.{AllPass, AllZip, concat, list_any}
use Rattle.std.specs.Borrow.{Bor}
use Rattle.std.specs.Str.{bytes_eq}
use Rattle.std.specs.Str.Parse.{IsNumeral, digits_value}
use Rattle.hdl_proxy.specs.Xml.{IsBetween, IsTag, is_blank, attribute_value}
use Rattle.hdl_proxy.specs.declared.locations.Location.{Location}
use Rattle.hdl_proxy.specs.declared.xml.Attribute.{Attribute}

-- ---- what a value says

-- what the attribute `weight` says, as decimal digits, and 1 where there is none
abbrev pub IsWeight : Option (List ℕ) → ℕ → Type 0
IsWeight None weight = weight ≡ 1
IsWeight (Some digits) weight = IsNumeral 10 digits × (weight ≡ digits_value 10 digits)

-- there is an attribute whose name, a colon, and what it says are this text
abbrev pub wanted_text : Attribute → List ℕ
wanted_text one = one.name.items ++ (codes ":" ++ one.text.items)

abbrev pub is_wanted : List ℕ → List Attribute → Bool
is_wanted locatt attributes = list_any (λ one. bytes_eq (wanted_text one) locatt) attributes

-- the location of these attributes: where it leads, how much it weighs, and whether it has the attribute that is asked for
pub record IsLocationOf (locatt : List ℕ) (attributes : List Attribute) (location : Location) : Type 0 where
  pub href : attribute_value (codes "href") attributes ≡ Some location.href.items
  pub weight : IsWeight (attribute_value (codes "weight") attributes) location.weight
  pub wanted : location.is_wanted ≡ is_wanted locatt attributes

-- a tag ends at once, or another one ends what it began, in which nothing stands
abbrev pub IsEnd : List ℕ → Type 0
IsEnd written = (written ≡ codes "/>") ⊎ ((blank : List ℕ) × (AllPass is_blank blank × (written ≡ codes ">" ++ (blank ++ codes "</location>"))))

-- a location, behind blanks and comments
abbrev pub IsLocation : List ℕ → List ℕ → Location → Type 0
IsLocation locatt written location =
    (before tag back : List ℕ) × (attributes : List Attribute) × (IsBetween before × IsTag (codes "<location") tag attributes × IsEnd back
    × IsLocationOf locatt attributes location × (written ≡ before ++ (tag ++ back)))

-- locations up to the tag that ends them
abbrev pub AreLocations : List ℕ → List ℕ → List Location → Type 0
AreLocations locatt written locations =
    (pieces : List (List ℕ)) × (after : List ℕ) × (AllZip (IsLocation locatt) pieces locations × IsBetween after
    × (written ≡ concat pieces ++ (after ++ codes "</locations>")))

-- what stands behind the front tag: nothing where that ends at once
abbrev pub IsInside : List ℕ → List ℕ → List Location → Type 0
IsInside locatt written locations =
    ((written ≡ codes "/>") × (locations ≡ [])) ⊎ ((inside : List ℕ) × (AreLocations locatt inside locations × (written ≡ codes ">" ++ inside)))

-- a value says these locations, of which each knows whether it has the attribute that is asked for
abbrev pub SaysLocations : List ℕ → List ℕ → List Location → Type 0
SaysLocations locatt value locations =
    (before tag inside after : List ℕ) × (attributes : List Attribute) × (AllPass is_blank before × IsTag (codes "<locations") tag attributes
    × IsInside locatt inside locations × AllPass is_blank after × (value ≡ before ++ (tag ++ (inside ++ after))))

-- ---- which one is chosen

-- how much it weighs: where only those with the attribute that is asked for are chosen, such a one at least 1 and any other nothing
abbrev pub weight_for : Bool → Location → ℕ
weight_for false location = location.weight
weight_for true location = if location.is_wanted then max location.weight 1 else 0

-- one of these has the attribute that is asked for
abbrev pub has_wanted : List Location → Bool
has_wanted locations = list_any (λ one. one.is_wanted) locations

-- it is one of these, and weighs something
abbrev pub IsChosen : List Location → Bool → Bor Location → Type 0
IsChosen locations wanted chosen = Contains locations chosen.now × (0 < weight_for wanted chosen.now)

-- none of these weighs anything
abbrev pub IsNoneChosen : List Location → Bool → Type 0
IsNoneChosen locations wanted = All (λ one. weight_for wanted one ≡ 0) locations

-- one that weighs something, and none just where none does
abbrev pub IsDrawn : List Location → Bool → Option (Bor Location) → Type 0
IsDrawn locations wanted None = IsNoneChosen locations wanted
IsDrawn locations wanted (Some chosen) = IsChosen locations wanted chosen

-- where one has the attribute that is asked for, one of those that have it, and else one of all
abbrev pub IsChoice : List Location → Option (Bor Location) → Type 0
IsChoice locations chosen = IsDrawn locations (has_wanted locations) chosen
