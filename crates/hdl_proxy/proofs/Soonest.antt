-- The value that may be kept for the shortest time, with one more value.
use Rattle.std.proofs.Common.{◌≡◌, ◌<◌, ◌≤◌, ◌+◌, ℕ, true, false, List, [], ◌∷◌, ◌++◌, All, Option, Some, None, take, length, get_or, sym, ap, subst, ◌∙◌, arith}
use Rattle.std.proofs.lemmas.Bool.{ltb-false, ltb-true}
use Rattle.std.proofs.lemmas.List.{take_more}
use Rattle.std.proofs.lemmas.List.Elements.{All-push, All-nil, Contains-push, Contains-append_left}
use Rattle.hdl_value.specs.declared.value.Value.{Value}
use Rattle.hdl_proxy.specs.CacheControl.{IsSoonest, comes_sooner, fresh_for}

abbrev NoSooner : Value → List Value → Type 0
NoSooner first values = All (λ v. fresh_for first ≤ fresh_for v) values

earlier : (values : List Value) (v chosen : Value) → fresh_for v ≤ fresh_for chosen → NoSooner chosen values → NoSooner v values
earlier values v chosen le h = λ i d lt. let least = h i d lt in omega (arith, le, least)

pub chosen_push : (values : List Value) (v : Value) (chosen : Option Value) → comes_sooner v chosen ≡ true → IsSoonest values chosen → IsSoonest (values ++ v ∷ []) (Some v)
chosen_push values v None e h =
    (Contains-push values v, All-push (λ w. fresh_for v ≤ fresh_for w) values v (subst (NoSooner v) (sym h) (All-nil (λ w. fresh_for v ≤ fresh_for w))) (omega arith))
chosen_push values v (Some chosen) e h =
    let lt : fresh_for v < fresh_for chosen = ltb-true (fresh_for v) (fresh_for chosen) e in
    (Contains-push values v, All-push (λ w. fresh_for v ≤ fresh_for w) values v (earlier values v chosen (omega (arith, lt)) h.1) (omega arith))

pub kept_push : (values : List Value) (v : Value) (chosen : Option Value) → comes_sooner v chosen ≡ false → IsSoonest values chosen → IsSoonest (values ++ v ∷ []) chosen
kept_push values v None e h = absurd cc
kept_push values v (Some chosen) e h =
    let le : fresh_for chosen ≤ fresh_for v = ltb-false (fresh_for v) (fresh_for chosen) e in
    (Contains-append_left values (v ∷ []) chosen h.0, All-push (λ w. fresh_for chosen ≤ fresh_for w) values v h.1 le)

pub more : (values : List Value) (i : ℕ) (v : Value) → i < length values → v ≡ get_or values i v → take (i + 1) values ≡ take i values ++ v ∷ []
more values i v lt is = take_more values i v lt ∙ ap (λ (x : Value). take i values ++ x ∷ []) (sym is)
