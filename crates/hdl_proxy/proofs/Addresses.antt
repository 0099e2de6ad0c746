-- What stands in a Location is graphic ASCII.
use Rattle.std.proofs.Common.{◌≡◌, ◌<◌, ℕ, List, true, false, Bool, All, ◌||◌, ◌==◌, nat_lt, refl, ◌∙◌, arith}
use Rattle.std.specs.Prelude.{codes}
use Rattle.std.proofs.lemmas.List.Elements.{All-cons}
use Rattle.std.proofs.lemmas.Bool.{agree_below, agree_below_at}
use Rattle.std.proofs.lemmas.Bool.Decides.{nat_tests}
use Rattle.percent_encoding.specs.declared.ascii_set.AsciiSet.{AsciiSet}
use Rattle.percent_encoding.specs.AsciiSet.{contains, should_percent_encode}
use Rattle.percent_encoding.specs.Percent.{percent_encode}
use Rattle.percent_encoding.proofs.AsciiSetLemmas.{ascii_from_kept, outside_from_kept}
use Rattle.percent_encoding.proofs.PercentLemmas.{IsEscapeByte, All-percent_encode}
use Rattle.hdl_proxy.specs.Url.{IsGraphic}
use Rattle.hdl_proxy.specs.declared.url.TheConstants.{IN_LOCATION, IN_PATH}

-- no graphic octet
abbrev pub is_bare : ℕ → Bool
is_bare octet = nat_lt octet 33 || (octet == 127)

-- the set has each octet of ASCII that isn't graphic
abbrev pub Covers : AsciiSet → Type 0
Covers set = agree_below (λ b. contains set b || is_bare b) (contains set) 128 ≡ true

pub location_covers : Covers IN_LOCATION
location_covers = refl

pub path_covers : Covers IN_PATH
path_covers = refl

graphic_escape : (b : ℕ) → IsEscapeByte b → IsGraphic b
graphic_escape b h = grind arith

right_false : (x y : Bool) → (x || y) ≡ false → y ≡ false
right_false true y e = absurd cc
right_false false y e = e

graphic_unless_bare : (b : ℕ) → b < 128 → is_bare b ≡ false → IsGraphic b
graphic_unless_bare b small bare = grind (arith, nat_tests)

kept_graphic : (set : AsciiSet) → Covers set → (b : ℕ) → should_percent_encode set b ≡ false → IsGraphic b
kept_graphic set covers b kept =
    let small = ascii_from_kept set b kept in
    let outside = outside_from_kept set b kept in
    let same = agree_below_at (λ c. contains set c || is_bare c) (contains set) 128 b covers small in
    graphic_unless_bare b small (right_false (contains set b) (is_bare b) (same ∙ outside))

pub graphic : (set : AsciiSet) → Covers set → (octets : List ℕ) → All IsGraphic (percent_encode set octets)
graphic set covers octets = All-percent_encode IsGraphic set octets (kept_graphic set covers) graphic_escape

pub slash_graphic : IsGraphic 47
slash_graphic = (omega arith, omega arith)

-- behind its question mark a word of letters alone, which no escape stands for
pub word_graphic : All IsGraphic (codes "?noredirect")
unfolding percent_encode should_percent_encode
word_graphic = All-cons IsGraphic 63 (codes "noredirect") (omega arith, omega arith) (graphic IN_PATH path_covers (codes "noredirect"))

pub form_word_graphic : All IsGraphic (codes "?edit")
unfolding percent_encode should_percent_encode
form_word_graphic = All-cons IsGraphic 63 (codes "edit") (omega arith, omega arith) (graphic IN_PATH path_covers (codes "edit"))

-- nor for letters and slashes
pub api_graphic : All IsGraphic (codes "/api/handles")
unfolding percent_encode should_percent_encode
api_graphic = graphic IN_PATH path_covers (codes "/api/handles")
