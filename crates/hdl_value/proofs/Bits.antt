-- Binary digits, put one after the other.
use Rattle.std.proofs.Common.{◌≡◌, ℕ, ◌+◌, ◌-◌, ◌/◌, ◌%◌, ◌<◌, ◌≤◌, suc, List, [], ◌∷◌, ◌++◌, sym, ◌∙◌, append_assoc, arith}
use Rattle.std.proofs.lemmas.List.{append-nil}
use Rattle.hdl_value.specs.Permission.{bits}

pub bits_on : (count i rest : ℕ) (out all : List ℕ) → i < count → out ++ bits (count - i) rest ≡ all → (out ++ (48 + rest % 2) ∷ []) ++ bits (count - (i + 1)) (rest / 2) ≡ all
bits_on count i rest out all lt h =
    let k : count - i ≡ suc (count - (i + 1)) = omega arith in
    append_assoc out ((48 + rest % 2) ∷ []) (bits (count - (i + 1)) (rest / 2)) ∙ (rw k at h)

pub bits_end : (count i rest : ℕ) (out all : List ℕ) → count ≤ i → out ++ bits (count - i) rest ≡ all → out ≡ all
bits_end count i rest out all le h =
    let k : count - i ≡ 0 = omega arith in
    sym (append-nil out) ∙ (rw k at h)
