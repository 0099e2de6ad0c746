-- Whether a text is what is asked for.
use Rattle.std.proofs.Common.{◌≡◌, ℕ, Bool, true, false, List, sym, refl}
use Rattle.std.specs.Str.{bytes_eq}
use Rattle.std.proofs.lemmas.Bool.{false_from_ne_true}
use Rattle.std.proofs.lemmas.Slice.Eq.{bytes_eq-Decides}

-- a test that is true just where two texts are the same
pub same_test : (text whole : List ℕ) (b : Bool) → (b ≡ true → text ≡ whole) → (text ≡ whole → b ≡ true) → b ≡ bytes_eq text whole
same_test text whole true p q = sym ((bytes_eq-Decides text whole).1 (p refl))
same_test text whole false p q = sym (false_from_ne_true _ (λ t. let e = q ((bytes_eq-Decides text whole).0 t) in absurd cc))
