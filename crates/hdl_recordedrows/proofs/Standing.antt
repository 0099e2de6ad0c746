-- One more value before a change.
use Rattle.std.proofs.Common.{◌≡◌, ◌∙◌, ◌++◌, ◌∷◌, [], ◌+◌, ◌<◌, ℕ, List, ap, sym, suc, take, length, slice_index_or, arith}
use Rattle.std.proofs.Math.Seq.{take-suc}
use Rattle.std.proofs.lemmas.List.Elements.{filter_map-append}
use Rattle.hdl_rows.specs.Table.{Table, at, place}
use Rattle.hdl_recordedrows.specs.Before.{standing}

pub standing_more : (t : Table) (h is : List ℕ) (i : ℕ) → i < length is → standing t h (take i is) ++ standing t h (slice_index_or is i 0 ∷ []) ≡ standing t h (take (i + 1) is)
standing_more t h is i lt =
    let next : suc i ≡ i + 1 = omega arith in
    sym (filter_map-append (λ j. at t (place h j)) (take i is) (slice_index_or is i 0 ∷ [])) ∙ ap (standing t h) (sym (take-suc is i 0 lt) ∙ ap (λ n. take n is) next)
