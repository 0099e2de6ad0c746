-- After an update each wanted value is there, and the others are as they were.
use Rattle.std.proofs.Common.{◌≡◌, ℕ, ◌==◌, ◌&&◌, not, Bool, true, false, List, [], ◌∷◌, ◌++◌, All, Contains, refl, sym, ap, subst, ◌∙◌, arith, length, get_or, inl, inr}
use Rattle.std.specs.List.{filter, list_any}
use Rattle.std.specs.Str.{bytes_eq}
use Rattle.std.proofs.lemmas.Bool.{both_ways, not-true, eqb-true, eq-eqb, and_parts, and_from, and_right, or_left, or_right, not_from_true, not_from_false, cases_Bool, cond-false, false_from_ne_true}
use Rattle.std.proofs.lemmas.List.{append-nil}
use Rattle.std.proofs.lemmas.List.Elements.{Contains-get_or, All-head, All-tail, All-weaker, All-contains_itself, All-filter, filter-append}
use Rattle.std.proofs.lemmas.List.Folds.{Any-from_list_any, list_any-append, list_any_at}
use Rattle.std.proofs.lemmas.Slice.Eq.{bytes_eq-Decides}
use Rattle.hdl_value.specs.declared.value.Value.{Value}
use Rattle.hdl_commands.specs.Update.{has_index, is_same, is_there, is_changed, changed, lacking, after, others, AreDistinct, UpdateIsRight}

-- ---- lists

any_of : {X : Type 0} (p : X → Bool) (xs : List X) (x : X) → Contains xs x → p x ≡ true → list_any p xs ≡ true
any_of p xs x c h = list_any_at p xs c.0 x c.1 (subst (λ y. p y ≡ true) (sym c.2) h)

into_filter : {X : Type 0} (p q : X → Bool) (xs : List X) → list_any (λ x. p x && q x) xs ≡ true → list_any q (filter p xs) ≡ true
into_filter p q [] h = h
into_filter p q (x ∷ xs) h = grind (arith, into_filter p q xs)

from_filter : {X : Type 0} (p q : X → Bool) (xs : List X) → list_any q (filter p xs) ≡ true → list_any (λ x. p x && q x) xs ≡ true
from_filter p q [] h = h
from_filter p q (x ∷ xs) h = grind (arith, from_filter p q xs)

-- one of the list that passes both tests
filtered : {X : Type 0} (p q : X → Bool) (xs : List X) (x : X) → Contains xs x → p x ≡ true → q x ≡ true → list_any q (filter p xs) ≡ true
filtered p q xs x c e h = into_filter p q xs (any_of (λ y. p y && q y) xs x c (and_from (p x) (q x) e h))

none_passes : {X : Type 0} (p : X → Bool) (xs : List X) → All (λ x. p x ≡ false) xs → filter p xs ≡ []
none_passes p [] all = refl
none_passes p (x ∷ xs) all = cond-false (p x) (x ∷ filter p xs) (filter p xs) (All-head (λ y. p y ≡ false) x xs all) ∙ none_passes p xs (All-tail (λ y. p y ≡ false) x xs all)

twice_filtered : {X : Type 0} (p q : X → Bool) → ((x : X) → p x ≡ true → q x ≡ true) → (xs : List X) → filter p (filter q xs) ≡ filter p xs
twice_filtered p q h [] = refl
twice_filtered p q h (x ∷ xs) = elim (cases_Bool (p x)) [
  | inl passes ↦ grind (arith, twice_filtered p q h xs, passes, h x passes)
  | inr misses ↦ grind (arith, twice_filtered p q h xs, misses)
]

-- ---- values

same_octets : (xs : List ℕ) → bytes_eq xs xs ≡ true
same_octets xs = (bytes_eq-Decides xs xs).1 refl

same_number : (n : ℕ) → (n == n) ≡ true
same_number n = eq-eqb n n refl

is_itself : (w : Value) → w.references ≡ [] → is_same w w ≡ true
is_itself w e =
    let none : (length w.references == 0) ≡ true = subst (λ rs. (length rs == 0) ≡ true) (sym e) refl in
    and_from _ _ (same_number w.index) (and_from _ _ (same_octets w.kind) (and_from _ _ (same_octets w.bytes) (and_from _ _ (same_octets w.ttl) (and_from _ _ (same_number w.permissions) (and_from _ _ none none)))))

same_index : (v w : Value) → is_same v w ≡ true → v.index ≡ w.index
same_index v w h = eqb-true v.index w.index (and_parts _ _ h).0

-- ---- what is there afterwards

-- the place of a value that is as it is wanted lacks_it taken by a modification
not_changed : (there wanted : List Value) → AreDistinct wanted → (w : Value) → Contains wanted w → is_there there w ≡ true → has_index w.index (changed there wanted) ≡ false
not_changed there wanted distinct w c is =
    false_from_ne_true _ (λ h.
    let found = Any-from_list_any (λ (u : Value). is_changed there u && (u.index == w.index)) wanted (from_filter (λ (u : Value). is_changed there u) (λ (u : Value). u.index == w.index) wanted h) in
    let both = and_parts (is_changed there found.1) (found.1.index == w.index) found.4 in
    let same : found.1 ≡ w = distinct found.1 w (found.0, found.2, found.3) c (eqb-true _ _ both.1) in
    let differs : is_changed there w ≡ true = subst (λ u. is_changed there u ≡ true) same both.0 in
    both_ways (is_there there w) (not-true _ (and_parts _ _ differs).1) is)

stays : (there wanted : List Value) → AreDistinct wanted → (w : Value) → Contains wanted w → is_there there w ≡ true → is_there (filter (λ v. not (has_index v.index (changed there wanted))) there) w ≡ true
stays there wanted distinct w c is =
    let found = Any-from_list_any (λ (v : Value). is_same v w) there is in
    let free : has_index found.1.index (changed there wanted) ≡ false = subst (λ n. has_index n (changed there wanted) ≡ false) (sym (same_index found.1 w found.4)) (not_changed there wanted distinct w c is) in
    filtered (λ (v : Value). not (has_index v.index (changed there wanted))) (λ (v : Value). is_same v w) there found.1 (found.0, found.2, found.3) (not_from_false _ free) found.4

in_front : (w : Value) (xs ys : List Value) → is_there xs w ≡ true → is_there (xs ++ ys) w ≡ true
in_front w xs ys h = list_any-append (λ (v : Value). is_same v w) xs ys ∙ or_left _ _ h

behind : (w : Value) (xs ys : List Value) → is_there ys w ≡ true → is_there (xs ++ ys) w ≡ true
behind w xs ys h = list_any-append (λ (v : Value). is_same v w) xs ys ∙ or_right _ _ h

if_there : (there wanted : List Value) → AreDistinct wanted → (w : Value) → Contains wanted w → is_there there w ≡ true → is_there (after there wanted) w ≡ true
if_there there wanted distinct w c h =
    let kept : List Value = filter (λ (v : Value). not (has_index v.index (changed there wanted))) there in
    in_front w (kept ++ changed there wanted) (lacking there wanted) (in_front w kept (changed there wanted) (stays there wanted distinct w c h))

if_changed : (there wanted : List Value) (w : Value) → Contains wanted w → w.references ≡ [] → is_changed there w ≡ true → is_there (after there wanted) w ≡ true
if_changed there wanted w c e h =
    let kept : List Value = filter (λ (v : Value). not (has_index v.index (changed there wanted))) there in
    let found : is_there (changed there wanted) w ≡ true = filtered (λ (u : Value). is_changed there u) (λ (v : Value). is_same v w) wanted w c h (is_itself w e) in
    in_front w (kept ++ changed there wanted) (lacking there wanted) (behind w kept (changed there wanted) found)

if_lacking : (there wanted : List Value) (w : Value) → Contains wanted w → w.references ≡ [] → has_index w.index there ≡ false → is_there (after there wanted) w ≡ true
if_lacking there wanted w c e h =
    let kept : List Value = filter (λ (v : Value). not (has_index v.index (changed there wanted))) there in
    let found : is_there (lacking there wanted) w ≡ true = filtered (λ (u : Value). not (has_index u.index there)) (λ (v : Value). is_same v w) wanted w c (not_from_false (has_index w.index there) h) (is_itself w e) in
    behind w (kept ++ changed there wanted) (lacking there wanted) found

one_is_there : (there wanted : List Value) → AreDistinct wanted → (w : Value) → Contains wanted w → w.references ≡ [] → is_there (after there wanted) w ≡ true
one_is_there there wanted distinct w c e =
    elim (cases_Bool (is_there there w)) [
      | inl passes ↦ if_there there wanted distinct w c passes
      | inr misses ↦ elim (cases_Bool (has_index w.index there)) [
        | inl has ↦ if_changed there wanted w c e (and_from (has_index w.index there) (not (is_there there w)) has (not_from_false (is_there there w) misses))
        | inr lacks ↦ if_lacking there wanted w c e lacks
      ]
    ]

-- ---- the others

none_of_wanted : (wanted : List Value) (p : Value → Bool) → filter (λ v. not (has_index v.index wanted)) (filter p wanted) ≡ []
none_of_wanted wanted p =
    none_passes (λ v. not (has_index v.index wanted)) (filter p wanted)
    (All-filter p (λ v. not (has_index v.index wanted) ≡ false) wanted
    (All-weaker (Contains wanted) (λ v. not (has_index v.index wanted) ≡ false)
    (λ v c. not_from_true _ (any_of (λ (u : Value). u.index == v.index) wanted v c (same_number v.index))) wanted (All-contains_itself wanted)))

no_more_in_some : (wanted : List Value) (p : Value → Bool) (n : ℕ) → has_index n wanted ≡ false → has_index n (filter p wanted) ≡ false
no_more_in_some wanted p n none =
    false_from_ne_true _ (λ h.
    let found = Any-from_list_any (λ (u : Value). p u && (u.index == n)) wanted (from_filter p (λ (u : Value). u.index == n) wanted h) in
    both_ways (has_index n wanted) none (any_of (λ (u : Value). u.index == n) wanted found.1 (found.0, found.2, found.3) (and_parts _ _ found.4).1))

others_are_there : (there wanted : List Value) → others (after there wanted) wanted ≡ others there wanted
others_are_there there wanted =
    let kept : List Value = filter (λ (v : Value). not (has_index v.index (changed there wanted))) there in
    let other : Value → Bool = λ v. not (has_index v.index wanted) in
    let parts = filter-append other (kept ++ changed there wanted) (lacking there wanted) in
    let front = filter-append other kept (changed there wanted) in
    let same = twice_filtered other (λ v. not (has_index v.index (changed there wanted)))
    (λ v h. not_from_false _ (no_more_in_some wanted (λ (u : Value). is_changed there u) v.index (not-true _ h))) there in
    let first = none_of_wanted wanted (λ (u : Value). is_changed there u) in
    let second = none_of_wanted wanted (λ (u : Value). not (has_index u.index there)) in
    parts ∙ ap (λ l. l ++ filter other (lacking there wanted)) front ∙ ap (λ l. (filter other kept ++ filter other (changed there wanted)) ++ l) second ∙ append-nil (filter other kept ++ filter other (changed there wanted)) ∙ ap (λ l. filter other kept ++ l) first ∙ append-nil (filter other kept) ∙ same

nothing_is_sent : (there wanted : List Value) → All (λ w. is_there there w ≡ true) wanted → (changed there wanted ≡ []) × (lacking there wanted ≡ [])
nothing_is_sent there wanted all = (
  none_passes (λ (w : Value). is_changed there w) wanted (All-weaker (λ w. is_there there w ≡ true) (λ w. is_changed there w ≡ false) (λ w h. and_right _ _ (not_from_true _ h)) wanted all),
  none_passes (λ (w : Value). not (has_index w.index there)) wanted (All-weaker (λ w. is_there there w ≡ true) (λ w. not (has_index w.index there) ≡ false)
      (λ w h.
      let found = Any-from_list_any (λ (v : Value). is_same v w) there h in
      not_from_true _ (any_of (λ (v : Value). v.index == w.index) there found.1 (found.0, found.2, found.3) (eq-eqb _ _ (same_index found.1 w found.4)))) wanted all),
)

pub update_is_right_lem : UpdateIsRight
update_is_right_lem there wanted distinct none =
    record {
      wanted_are_there = λ k d lt. one_is_there there wanted distinct (get_or wanted k d) (Contains-get_or wanted k d lt) (none k d lt);
      others_stay = others_are_there there wanted;
      nothing_twice = nothing_is_sent there wanted;
    }
