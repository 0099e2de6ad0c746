-- The value of a type of the lowest index, with one more value.
use Rattle.std.proofs.Common.{◌≡◌, ◌<◌, ◌≤◌, ◌&&◌, ℕ, Bool, true, false, List, [], ◌∷◌, ◌++◌, All, Option, Some, None, arith}
use Rattle.std.proofs.lemmas.Bool.{ltb-false, ltb-true}
use Rattle.std.proofs.lemmas.List.Elements.{All-push, Contains-push, Contains-append_left}
use Rattle.hdl_value.specs.declared.value.Value.{Value}
use Rattle.hdl_proxy.specs.Choice.{IsFirstOf, is_chosen, is_of, comes_first}

abbrev NoEarlier : List ℕ → Value → List Value → Type 0
NoEarlier kind first values = All (λ v. is_of kind v ≡ true → first.index ≤ v.index) values

earlier : (kind : List ℕ) (values : List Value) (v chosen : Value) → v.index ≤ chosen.index → NoEarlier kind chosen values → NoEarlier kind v values
earlier kind values v chosen le h = λ i d lt is. let least = h i d lt is in omega (arith, le, least)

later : (kind : List ℕ) (values : List Value) (v : Value) → All (λ w. ¬ (is_of kind w ≡ true)) values → NoEarlier kind v values
later kind values v h = λ i d lt is. absurd (h i d lt is)

both : (a b : Bool) → a && b ≡ true → (a ≡ true) × (b ≡ true)
both true true e = (cc, cc)
both true false e = absurd cc
both false b e = absurd cc

pub chosen_push : (kind : List ℕ) (values : List Value) (v : Value) (chosen : Option Value) → is_chosen kind v chosen ≡ true → IsFirstOf kind values chosen → IsFirstOf kind (values ++ v ∷ []) (Some v)
chosen_push kind values v None e h =
    let of_kind = (both (is_of kind v) true e).0 in
    (Contains-push values v, of_kind, All-push (λ w. is_of kind w ≡ true → v.index ≤ w.index) values v (later kind values v h) (λ is. omega arith))
chosen_push kind values v (Some chosen) e h =
    let parts = both (is_of kind v) (comes_first v (Some chosen)) e in
    let lt : v.index < chosen.index = ltb-true v.index chosen.index parts.1 in
    (Contains-push values v, parts.0, All-push (λ w. is_of kind w ≡ true → v.index ≤ w.index) values v (earlier kind values v chosen (omega (arith, lt)) h.2) (λ is. omega arith))

-- one that isn't chosen is of another type, or doesn't come first
not_less : (v : Value) (chosen : Value) (of_kind : Bool) → of_kind && comes_first v (Some chosen) ≡ false → of_kind ≡ true → chosen.index ≤ v.index
not_less v chosen true e is = ltb-false v.index chosen.index e
not_less v chosen false e is = absurd cc

not_of : (of_kind : Bool) → of_kind && true ≡ false → of_kind ≡ true → ⊥
not_of true e is = absurd cc
not_of false e is = absurd cc

pub kept_push : (kind : List ℕ) (values : List Value) (v : Value) (chosen : Option Value) → is_chosen kind v chosen ≡ false → IsFirstOf kind values chosen → IsFirstOf kind (values ++ v ∷ []) chosen
kept_push kind values v None e h = All-push (λ w. ¬ (is_of kind w ≡ true)) values v h (not_of (is_of kind v) e)
kept_push kind values v (Some chosen) e h =
    (Contains-append_left values (v ∷ []) chosen h.0, h.1, All-push (λ w. is_of kind w ≡ true → chosen.index ≤ w.index) values v h.2 (not_less v chosen (is_of kind v) e))
