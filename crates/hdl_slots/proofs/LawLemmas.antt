-- What was put is found, and what was taken is gone.
use Rattle.std.proofs.Common.{◌≡◌, ℕ, zero, suc, ◌-◌, ◌≤◌, Bool, true, false, not, cond, eqb, List, [], ◌∷◌, ◌++◌, length, drop, Some, None, option_map, refl, ap, arith}
use Rattle.std.specs.List.{AllByRecursion, filter, find}
use Rattle.std.proofs.lemmas.List.{length-drop, length-append}
use Rattle.std.proofs.lemmas.Bool.{eq-eqb}
use Rattle.hdl_slots.specs.declared.pending.Challenge.{Challenge}
use Rattle.hdl_slots.specs.declared.pending.Pending.{Pending}
use Rattle.hdl_slots.specs.Lanes.{without, is_of}
use Rattle.hdl_slots.specs.Laws.{PutIsFound, TakenIsGone, AtMostEight}
use Rattle.hdl_slots.proofs.Lanes.{IsNot, and_false, all_without}

left_step : (test : Challenge → Bool) (x : Challenge) (xs : List Challenge) (b : Bool) → test x ≡ b → find test xs ≡ None → find test (cond (not b) (x ∷ xs) xs) ≡ None
left_step test x xs true e below = below
left_step test x xs false e below = rw e below

none_left : (test : Challenge → Bool) (xs : List Challenge) → find test (filter (λ c. not (test c)) xs) ≡ None
none_left test [] = refl
none_left test (x ∷ xs) = left_step test x (filter (λ c. not (test c)) xs) (test x) refl (none_left test xs)

pub taken_is_gone_lem : TakenIsGone
taken_is_gone_lem lane peer number = ap (option_map (λ (c : Challenge). c.pending)) (none_left (is_of peer number) lane.challenges)

last_found : (n : ℕ) (p : Pending) (k : ℕ) (xs : List Challenge) → AllByRecursion (IsNot n) xs → k ≤ length xs
    → find (is_of p.peer n) (drop k (xs ++ record { number = n; pending = p } ∷ [])) ≡ Some record { number = n; pending = p }
last_found n p zero [] others le = rw (eq-eqb p.peer p.peer refl, eq-eqb n n refl) refl
last_found n p (suc k) [] others le = absurd (omega arith)
last_found n p zero (y ∷ ys) others le =
    rw (and_false (eqb y.pending.peer p.peer) (eqb y.number n) others.0) (last_found n p zero ys others.1 (omega arith))
last_found n p (suc k) (y ∷ ys) others le = last_found n p k ys others.1 (omega arith)

pub put_is_found_lem : PutIsFound
put_is_found_lem lane p =
    let kept = without lane.next lane.challenges in
    let pushed = kept ++ record { number = lane.next; pending = p } ∷ [] in
    let fewer : length pushed - 8 ≤ length kept = omega (arith, length-append kept (record { number = lane.next; pending = p } ∷ [])) in
    ap (option_map (λ (c : Challenge). c.pending)) (last_found lane.next p (length pushed - 8) kept (all_without lane.next lane.challenges) fewer)

pub at_most_eight_lem : AtMostEight
at_most_eight_lem lane p =
    let pushed = without lane.next lane.challenges ++ record { number = lane.next; pending = p } ∷ [] in
    omega (arith, length-drop (length pushed - 8) pushed)
