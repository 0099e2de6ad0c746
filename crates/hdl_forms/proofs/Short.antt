-- Texts that are shorter than what they should begin with.
use Rattle.std.proofs.Common.{◌≡◌, ◌<◌, ◌∙◌, false, ℕ, List, length, take, drop, map, ap, sym, None, Some, if◌then◌else◌, min, arith}
use Rattle.std.specs.Char.{to_ascii_lowercase}
use Rattle.std.proofs.lemmas.Bool.{false_from_ne_true}
use Rattle.std.proofs.lemmas.List.{length-map, length-take}
use Rattle.std.proofs.lemmas.Slice.Eq.{bytes_eq-Decides}
use Rattle.hdl_forms.specs.Address.{begins, behind}

-- as long as it
as_long : (text front : List ℕ) → map to_ascii_lowercase (take (length front) text) ≡ map to_ascii_lowercase front → min (length front) (length text) ≡ length front
as_long text front same =
    sym (length-take (length front) text) ∙ sym (length-map (take (length front) text) to_ascii_lowercase) ∙ ap length same ∙ length-map front to_ascii_lowercase

pub too_short : (text front : List ℕ) → length text < length front → behind front text ≡ None
too_short text front less =
    let unlike : begins text front ≡ false =
    false_from_ne_true _ (λ t. absurd (omega (arith, less, as_long text front ((bytes_eq-Decides (map to_ascii_lowercase (take (length front) text)) (map to_ascii_lowercase front)).0 t)))) in
    ap (λ b. if b then Some (drop (length front) text) else None) unlike
