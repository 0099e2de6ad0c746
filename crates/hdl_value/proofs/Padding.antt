-- Good HS_ADMIN data without two octets of 0 behind it.
use Rattle.std.proofs.Common.{◌≡◌, ◌-◌, ◌==◌, ◌&&◌, ℕ, List, [], ◌∷◌, length, Bool, true, false, cond, is_some, refl, sym, ap, ◌∙◌, subst}
use Rattle.std.specs.Prelude.{◌↔◌, IsTrue, take}
use Rattle.std.specs.List.{ends_with}
use Rattle.std.proofs.lemmas.Bool.{false_from_ne_true}
use Rattle.hdl_limits.specs.Octets.{AreOctets}
use Rattle.hdl_value.specs.Data.{HasAdminData}
use Rattle.hdl_value.specs.Padding.{without_padding}
use Rattle.hdl_value.specs.Refs.{admin_in}
use Rattle.hdl_value.proofs.Sound.{admin_data_decides}

first_of : (x y : Bool) (p q : List ℕ) → x ≡ true → y ≡ true → cond (x && y) p q ≡ p
first_of true true p q a b = refl
first_of true false p q a b = absurd cc
first_of false y p q a b = absurd cc

second_of : (x y : Bool) (p q : List ℕ) → y ≡ false → cond (x && y) p q ≡ q
second_of true true p q b = absurd cc
second_of true false p q b = refl
second_of false y p q b = refl

-- the two octets are left out
pub padded : (bytes front : List ℕ) (good : Bool) → ends_with ◌==◌ bytes (0 ∷ 0 ∷ []) ≡ true → front ≡ take (length bytes - 2) bytes → AreOctets front → IsTrue good ↔ HasAdminData front → good ≡ true → front ≡ without_padding bytes
unfolding without_padding
padded bytes front good ends cut each tells is =
    let has : is_some (admin_in front) ≡ true = (admin_data_decides front each).1 (tells.0 is) in
    cut ∙ sym (first_of (ends_with ◌==◌ bytes (0 ∷ 0 ∷ [])) (is_some (admin_in (take (length bytes - 2) bytes))) (take (length bytes - 2) bytes) bytes ends (ap (λ (x : List ℕ). is_some (admin_in x)) (sym cut) ∙ has))

-- there are none, or what stands before them is no good data
pub unpadded : (bytes front : List ℕ) (good : Bool) → front ≡ take (length bytes - 2) bytes → AreOctets front → IsTrue good ↔ HasAdminData front → good ≡ false → bytes ≡ without_padding bytes
unfolding without_padding
unpadded bytes front good cut each tells is =
    let none : is_some (admin_in front) ≡ false = false_from_ne_true (is_some (admin_in front)) (λ some. let wrong = tells.1 ((admin_data_decides front each).0 some) in absurd cc) in
    sym (second_of (ends_with ◌==◌ bytes (0 ∷ 0 ∷ [])) (is_some (admin_in (take (length bytes - 2) bytes))) (take (length bytes - 2) bytes) bytes (ap (λ (x : List ℕ). is_some (admin_in x)) (sym cut) ∙ none))
