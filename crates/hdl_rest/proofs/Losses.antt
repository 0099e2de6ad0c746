-- A change loses nothing.
use Rattle.std.proofs.Common.{◌≡◌, ℕ, Bool, true, false, not, List, All, refl}
use Rattle.std.specs.List.{filter}
use Rattle.std.proofs.lemmas.List.Elements.{filter_passes}
use Rattle.std.proofs.lemmas.List.Sorted.{IsPermutation-filter_both}
use Rattle.hdl_value.specs.declared.value.Value.{Value}
use Rattle.hdl_rest.specs.Plan.{is_among, known_values, fresh, missing_indexes}
use Rattle.hdl_rest.specs.Record.{has_index}
use Rattle.hdl_rest.specs.Laws.{LosesNothing}

not_true : (b : Bool) → not b ≡ true → b ≡ false
not_true true e = absurd cc
not_true false e = refl

fails : {X : Type 0} (p : X → Bool) (xs : List X) → All (λ x. p x ≡ false) (filter (λ x. not (p x)) xs)
fails p xs = λ k d lt. not_true _ (filter_passes (λ x. not (p x)) xs k d lt)

pub nothing_is_lost_lem : (there : List ℕ) (vs : List Value) → LosesNothing there vs
nothing_is_lost_lem there vs =
    record {
      written = IsPermutation-filter_both (λ (v : Value). is_among v.index there) (λ (v : Value). not (is_among v.index there)) (λ v. refl) vs;
      modified = filter_passes (λ (v : Value). is_among v.index there) vs;
      added = fails (λ (v : Value). is_among v.index there) vs;
      removed = fails (λ (n : ℕ). has_index n vs) there;
    }
