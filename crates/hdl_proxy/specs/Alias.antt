-- Aliases: handles that stand for other handles.
use Rattle.std.specs.Prelude.{◌≡◌, ℕ, Bool, true, false, List, ◌++◌, Option, Some, None, codes, flat_map}
use Rattle.std.specs.List.{list_any}
use Rattle.std.specs.Str.{bytes_eq}
use Rattle.hdl_name.specs.Name.{IsHandle, canonical}
use Rattle.hdl_value.specs.declared.value.Value.{Value}
use Rattle.hdl_proxy.specs.Choice.{IsFirstOf}
use Rattle.hdl_proxy.specs.CacheControl.{IsCacheControlOf}
use Rattle.hdl_proxy.specs.Words.{text_of}
use Rattle.hdl_proxy.specs.declared.alias.Hop.{Hop}
use Rattle.hdl_proxy.specs.declared.found.Found.{Found}
use Rattle.hdl_proxy.specs.declared.found.Found.TheVariants.{Values, Refused, Nothing}

-- ---- where an alias leads

-- the handle that this value names, and none just where it names none
abbrev pub IsNamedIn : Option Value → Option (List ℕ) → Type 0
IsNamedIn None target = target ≡ None
IsNamedIn (Some alias) None = ¬ (IsHandle alias.bytes)
IsNamedIn (Some alias) (Some target) = IsHandle alias.bytes × (target ≡ alias.bytes)

-- the handle that the alias of these values names: the HS_ALIAS value of the lowest index
abbrev pub IsAliasAmong : List Value → Option (List ℕ) → Type 0
IsAliasAmong values target = (first : Option Value) × (IsFirstOf (codes "HS_ALIAS") values first × IsNamedIn first target)

-- none where a value says that the handle is gone
abbrev pub IsAliasUnless : Option Value → List Value → Option (List ℕ) → Type 0
IsAliasUnless None values target = IsAliasAmong values target
IsAliasUnless (Some gone) values target = target ≡ None

abbrev pub IsAliasOf : List Value → Option (List ℕ) → Type 0
IsAliasOf values target = (gone : Option Value) × (IsFirstOf (codes "HS_GONE") values gone × IsAliasUnless gone values target)

-- the alias that is followed, where aliases are, and how long others may keep the values that it stands among
abbrev pub IsHopOf : List Value → Option Hop → Type 0
IsHopOf values None = IsAliasOf values None
IsHopOf values (Some hop) = IsAliasOf values (Some hop.target) × IsCacheControlOf values hop.cache_control

abbrev pub IsHopIf : Bool → List Value → Option Hop → Type 0
IsHopIf true values hop = IsHopOf values hop
IsHopIf false values hop = hop ≡ None

abbrev pub IsHop : Bool → Found → Option Hop → Type 0
IsHop follows (Values values) hop = IsHopIf follows values.items hop
IsHop follows (Refused code) hop = hop ≡ None
IsHop follows Nothing hop = hop ≡ None

-- ---- circles

-- two names of one handle
abbrev pub is_same : List ℕ → List ℕ → Bool
is_same one other = bytes_eq (canonical one) (canonical other)

abbrev pub is_among : List (List ℕ) → List ℕ → Bool
is_among names name = list_any (λ one. is_same one name) names

-- words before the handles that aliases lead through, this one the last
abbrev pub hop_words : List ℕ → List ℕ
hop_words name = codes " " ++ (text_of name ++ codes ",")

abbrev pub way_words : List ℕ → List (List ℕ) → List ℕ → List ℕ
way_words front names target = front ++ (flat_map hop_words names ++ (codes " " ++ (text_of target ++ codes ".")))
