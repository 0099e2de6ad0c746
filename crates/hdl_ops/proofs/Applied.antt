-- A change that is decided can be applied to the table on which it was decided.
use Rattle.std.proofs.Common.{◌≡◌, ◌≢◌, ℕ, List, [], ◌∷◌, map, Bool, true, false, cond, not, ◌&&◌, ◌||◌, ◌==◌, Option, Some, None, Result, Ok, Err, refl, sym, ap, ◌∙◌, subst, true≢false, map-id, arith}
use Rattle.std.specs.Prelude.{IfOk, IfSome, OnOk, is_some, is_none, nat_lt, length}
use Rattle.std.specs.List.{AllByRecursion, list_any, list_all}
use Rattle.std.proofs.lemmas.Bool.{eq-eqb, eqb-true}
use Rattle.hdl_name.specs.Name.{canonical}
use Rattle.hdl_value.specs.declared.wire.Wire.{Wire}
use Rattle.hdl_value.specs.declared.value.Value.{Value}
use Rattle.hdl_value.specs.Refs.{is_admin}
use Rattle.hdl_value.specs.Tests.{is_sound}
use Rattle.hdl_value.specs.Padding.{stored_by}
use Rattle.hdl_rows.specs.Table.{Table, place, at, value_with, HaveTheirIndexes, AreDistinct, indexes}
use Rattle.hdl_msg.specs.Message.{Content, Operation, resolution, site_info, create, delete, add, remove, modify, list, response, other}
use Rattle.hdl_msg.specs.declared.fields.Header.{Header}
use Rattle.hdl_ops.specs.First.{first, or_code}
use Rattle.hdl_ops.specs.Requests.{handle_of, creates, resolves, with_stored, stored_operation}
use Rattle.hdl_ops.proofs.Stored.{any_stored}
use Rattle.hdl_ops.specs.Tables.{CanApply}
use Rattle.hdl_ops.specs.Admission.{refusal, has_twins, is_bad_list, are_bad, is_bad_write}
use Rattle.hdl_ops.specs.TableViews.{TableView, table_view, passes, passes_at}
use Rattle.hdl_ops.specs.Anyone.{is_open, is_open_write, code_for_anyone}
use Rattle.hdl_ops.specs.Proven.{Proof, misses_at, takes_at, misses, takes, code_before_key, code_after_key, code_for_key, value_at, key_of, IsCodeBy}
use Rattle.hdl_ops.specs.Decisions.{Level, Anyone, Proven, Decision, success, failure, carried_content, change_of, decision, DecidesBy}
use Rattle.hdl_auth.specs.declared.algorithm.Algorithm.{Algorithm}
use Rattle.hdl_ops.specs.Replies.{fits}
use Rattle.hdl_ops.specs.Views.{decision_of, IsAdmitted}
use Rattle.hdl_ops.specs.declared.admit.Admitted.{Admitted}
use Rattle.hdl_ops.specs.declared.admit.Admitted.TheVariants.{Passed}
use Rattle.hdl_ops.specs.declared.decision.Decision as code
use Rattle.hdl_msg.specs.declared.replies.ReplyContent.TheVariants.{Empty}

-- ---- rows

past_row : (b : Bool) (c : ℕ) (rows : List (Bool × ℕ)) (e : ℕ) → (c ≡ 1 → ⊥) → or_code (first ((b, c) ∷ rows)) e ≡ 1 → (b ≡ false) × (or_code (first rows) e ≡ 1)
unfolding first
past_row true c rows e apart h = absurd (apart h)
past_row false c rows e apart h = (refl, h)

no_row : (b : Bool) (c : ℕ) (rows : List (Bool × ℕ)) → first ((b, c) ∷ rows) ≡ None → (b ≡ false) × (first rows ≡ None)
unfolding first
no_row true c rows h = absurd (true≢false (sym (ap is_none h)))
no_row false c rows h = (refl, h)

skip : (b : Bool) → or_code (first ((false, 1) ∷ (b, 1) ∷ [])) 402 ≡ 1 → or_code (first ((b, 1) ∷ [])) 402 ≡ 1
unfolding first
skip b h = h

no_rows_left : or_code (first []) 0 ≡ 1 → ⊥
unfolding first
no_rows_left h = omega (arith, h)

last_row : (b : Bool) (e : ℕ) → (e ≡ 1 → ⊥) → or_code (first ((b, 1) ∷ [])) e ≡ 1 → b ≡ true
unfolding first
last_row true e apart h = refl
last_row false e apart h = absurd (apart h)

-- ---- tests of lists

or_false : (a b : Bool) → (a || b) ≡ false → (a ≡ false) × (b ≡ false)
or_false true b h = absurd (true≢false h)
or_false false b h = (refl, h)

and_true : (a b : Bool) → (a && b) ≡ true → (a ≡ true) × (b ≡ true)
and_true true b h = (refl, h)
and_true false b h = absurd (true≢false (sym h))

none_passes : {A : Type 0} (test : A → Bool) (P : A → Type 0) → ((x : A) → test x ≡ false → P x) → (xs : List A) → list_any test xs ≡ false → AllByRecursion P xs
none_passes test P f [] h = tt
none_passes test P f (x ∷ xs) h = let both = or_false (test x) (list_any test xs) h in (f x both.0, none_passes test P f xs both.1)

all_pass : {A : Type 0} (test : A → Bool) (P : A → Type 0) → ((x : A) → test x ≡ true → P x) → (xs : List A) → list_all test xs ≡ true → AllByRecursion P xs
all_pass test P f [] h = tt
all_pass test P f (x ∷ xs) h = let both = and_true (test x) (list_all test xs) h in (f x both.0, all_pass test P f xs both.1)

of_keys : {A : Type 0} (key : A → ℕ) (P : ℕ → Type 0) (xs : List A) → AllByRecursion (λ x. P (key x)) xs → AllByRecursion P (map key xs)
of_keys key P [] h = tt
of_keys key P (x ∷ xs) h = (h.0, of_keys key P xs h.1)

differ : (a b : ℕ) → (a == b) ≡ false → b ≢ a
differ a b h e = true≢false (sym (eq-eqb a b (sym e)) ∙ h)

pub distinct_keys : {A : Type 0} (key : A → ℕ) (xs : List A) → has_twins key xs ≡ false → AreDistinct (map key xs)
distinct_keys key [] h = tt
distinct_keys key (x ∷ xs) h =
    let both = or_false (list_any (λ y. key y == key x) xs) (has_twins key xs) h in
    (of_keys key (λ j. key x ≢ j) xs (none_passes (λ y. key y == key x) (λ y. key x ≢ key y) (λ y e. differ (key y) (key x) e) xs both.0), distinct_keys key xs both.1)

good_list : {A : Type 0} (key : A → ℕ) (xs : List A) → is_bad_list key xs ≡ false → AreDistinct (map key xs)
good_list key xs h = distinct_keys key xs (or_false (length xs == 0 || nat_lt 256 (length xs)) (has_twins key xs) h).1

good_values : (vs : List Value) → are_bad vs ≡ false → AreDistinct (indexes vs)
unfolding are_bad
good_values vs h = good_list (λ v. v.index) vs (or_false (is_bad_list (λ v. v.index) vs) (not (list_all is_sound vs)) h).0

good_indexes : (is : List ℕ) → is_bad_list (λ i. i) is ≡ false → AreDistinct is
good_indexes is h = subst AreDistinct (map-id is) (good_list (λ i. i) is h)

-- ---- what stands at a handle

there_by : (vs : List Value) (t : Table) (h : List ℕ) (i : ℕ) → HaveTheirIndexes t h vs → is_none (value_with i vs) ≡ false → at t (place h i) ≢ None
there_by vs t h i by e none = true≢false (sym (ap is_none (by i ∙ none)) ∙ e)

none_if : {A : Type 0} (o : Option A) → is_some o ≡ false → o ≡ None
none_if None h = refl
none_if (Some x) h = absurd (true≢false h)

absent_by : (vs : List Value) (t : Table) (h : List ℕ) (i : ℕ) → HaveTheirIndexes t h vs → is_some (value_with i vs) ≡ false → at t (place h i) ≡ None
absent_by vs t h i by e = sym (by i) ∙ none_if (value_with i vs) e

passing_is_there : (test : Value → Bool) (o : Option Value) → passes test o ≡ true → is_none o ≡ false
passing_is_there test None h = absurd (true≢false (sym h))
passing_is_there test (Some v) h = refl

-- ---- what a decision with code 1 knows of the table

-- the handle is absent for a create and there for all else, and no value is missing or in the way
abbrev Stands : TableView → Operation → Type 0
Stands s o = ((creates o && s.there) ≡ false) × ((not (creates o) && not s.there) ≡ false) × (misses o s.values ≡ false) × (takes o s.values ≡ false)

not_false : (b : Bool) → not b ≡ false → b ≡ true
not_false true h = refl
not_false false h = absurd (true≢false h)

-- such a change can be applied
changes : (t : Table) (wire : Wire) (header : Header) (o : Operation) (s : TableView) → s ≡ table_view t (record { wire = wire; header = header; operation = o }) → HaveTheirIndexes t (handle_of (record { wire = wire; header = header; operation = o })) s.values
    → is_bad_write (with_stored wire o) ≡ false → Stands s o → IfSome (change_of (with_stored wire o)) (CanApply t)
unfolding table_view handle_of
changes t wire header (resolution handle is ts) s see by good stands = tt
changes t wire header (create handle vs) s see by good stands =
    (sym (ap (λ (x : TableView). x.there) see) ∙ stands.0, good_values (map (stored_by wire) vs) (or_false (are_bad (map (stored_by wire) vs)) (not (list_any is_admin (map (stored_by wire) vs))) good).0)
changes t wire header (delete handle) s see by good stands = sym (ap (λ (x : TableView). x.there) see) ∙ not_false s.there stands.1
changes t wire header (add handle vs) s see by good stands = (
  sym (ap (λ (x : TableView). x.there) see) ∙ not_false s.there stands.1,
  good_values (map (stored_by wire) vs) good,
  of_keys (λ v. v.index) (λ i. at t (place (canonical handle) i) ≡ None) (map (stored_by wire) vs)
      (none_passes (λ n. takes_at s.values n.index) (λ n. at t (place (canonical handle) n.index) ≡ None) (λ n e. absent_by s.values t (canonical handle) n.index by e) (map (stored_by wire) vs)
      (any_stored wire (λ n. takes_at s.values n.index) (λ v. refl) vs ∙ stands.3)),
)
changes t wire header (remove handle is) s see by good stands = (
  sym (ap (λ (x : TableView). x.there) see) ∙ not_false s.there stands.1,
  good_indexes is good,
  none_passes (misses_at s.values) (λ i. at t (place (canonical handle) i) ≢ None) (λ i e. there_by s.values t (canonical handle) i by e) is stands.2,
)
changes t wire header (modify handle vs) s see by good stands = (
  sym (ap (λ (x : TableView). x.there) see) ∙ not_false s.there stands.1,
  good_values (map (stored_by wire) vs) good,
  of_keys (λ v. v.index) (λ i. at t (place (canonical handle) i) ≢ None) (map (stored_by wire) vs)
      (none_passes (λ n. misses_at s.values n.index) (λ n. at t (place (canonical handle) n.index) ≢ None) (λ n e. there_by s.values t (canonical handle) n.index by e) (map (stored_by wire) vs)
      (any_stored wire (λ n. misses_at s.values n.index) (λ v. refl) vs ∙ stands.2)),
)
changes t wire header (list handle) s see by good stands = tt
changes t wire header (response kind handle index answer) s see by good stands = tt
changes t wire header (site_info octets) s see by good stands = tt
changes t wire header (other octets) s see by good stands = tt

-- ---- for anyone

all_false : {A : Type 0} (test misses : A → Bool) → ((x : A) → test x ≡ true → misses x ≡ false) → (xs : List A) → list_all test xs ≡ true → list_any misses xs ≡ false
all_false test misses f [] h = refl
all_false test misses f (x ∷ xs) h = let both = and_true (test x) (list_all test xs) h in (λ k. f x both.0 k || all_false test misses f xs both.1 k)

open_there : (vs : List Value) (i : ℕ) → passes_at is_open vs i ≡ true → misses_at vs i ≡ false
open_there vs i h = passing_is_there is_open (value_with i vs) h

-- a write that anybody may do
open_stands : (o : Operation) (vs : List Value) → is_open_write o vs ≡ true → (misses o vs ≡ false) × (takes o vs ≡ false)
open_stands (resolution handle is ts) vs h = (refl, refl)
open_stands (create handle news) vs h = (refl, refl)
open_stands (delete handle) vs h = (refl, refl)
open_stands (add handle news) vs h = absurd (true≢false (sym h))
open_stands (remove handle is) vs h = (all_false (passes_at is_open vs) (misses_at vs) (λ i e. open_there vs i e) is h, refl)
open_stands (modify handle news) vs h =
    (all_false (λ n. not (is_admin n) && passes_at is_open vs n.index) (λ n. misses_at vs n.index) (λ n e. open_there vs n.index (and_true (not (is_admin n)) (passes_at is_open vs n.index) e).1) news h, refl)
open_stands (list handle) vs h = (refl, refl)
open_stands (response kind handle index answer) vs h = (refl, refl)
open_stands (site_info octets) vs h = (refl, refl)
open_stands (other octets) vs h = (refl, refl)

-- a resolution changes nothing
anyone_stands : (t : Table) (wire : Wire) (header : Header) (o : Operation) (s : TableView) → s ≡ table_view t (record { wire = wire; header = header; operation = o }) → HaveTheirIndexes t (handle_of (record { wire = wire; header = header; operation = o })) s.values
    → is_bad_write (with_stored wire o) ≡ false → code_for_anyone s (record { wire = wire; header = header; operation = o }) ≡ 1 → IfSome (change_of (with_stored wire o)) (CanApply t)
unfolding code_for_anyone
anyone_stands t wire header o s see by good one =
    let there = past_row (creates o && s.there) 101 _ 402 (λ e. omega (arith, e)) one in
    let absent = past_row (not (creates o) && not s.there) 100 _ 402 (λ e. omega (arith, e)) there.1 in
    let left = past_row _ 200 _ 402 (λ e. omega (arith, e)) absent.1 in
    let kept = past_row _ 402 _ 402 (λ e. omega (arith, e)) left.1 in
    by_resolving (resolves o) refl kept.1 there.0 absent.0
  where
    none_of : (o : Operation) → resolves o ≡ true → IfSome (change_of (with_stored wire o)) (CanApply t)
    none_of (resolution handle is ts) h = tt
    none_of (create handle news) h = absurd (true≢false (sym h))
    none_of (delete handle) h = absurd (true≢false (sym h))
    none_of (add handle news) h = absurd (true≢false (sym h))
    none_of (remove handle is) h = absurd (true≢false (sym h))
    none_of (modify handle news) h = absurd (true≢false (sym h))
    none_of (list handle) h = absurd (true≢false (sym h))
    none_of (response kind handle index answer) h = absurd (true≢false (sym h))
    none_of (site_info octets) h = absurd (true≢false (sym h))
    none_of (other octets) h = absurd (true≢false (sym h))

    by_resolving : (b : Bool) → resolves o ≡ b → or_code (first ((b, 1) ∷ (is_open_write o s.values, 1) ∷ [])) 402 ≡ 1 → (creates o && s.there) ≡ false → (not (creates o) && not s.there) ≡ false → IfSome (change_of (with_stored wire o)) (CanApply t)
    by_resolving true is h there absent = none_of o is
    by_resolving false is h there absent =
        let free = open_stands o s.values (last_row (is_open_write o s.values) 402 (λ e. omega (arith, e)) (skip (is_open_write o s.values) h)) in
        changes t wire header o s see by good (there, absent, free.0, free.1)

-- ---- with a proof

behind : (s : TableView) (r : Content) (p : Proof) (mask : ℕ) (key : Option Value) → code_after_key s r p mask key ≡ 1 → (misses r.operation s.values ≡ false) × (takes r.operation s.values ≡ false)
unfolding code_after_key
behind s r p mask key one =
    let key = past_row _ 406 _ 1 (λ e. omega (arith, e)) one in
    let right = past_row _ 403 _ 1 (λ e. omega (arith, e)) key.1 in
    let missing = past_row (misses r.operation s.values) 200 _ 1 (λ e. omega (arith, e)) right.1 in
    let taken = past_row (takes r.operation s.values) 201 _ 1 (λ e. omega (arith, e)) missing.1 in
    (missing.0, taken.0)

before : (s : TableView) (r : Content) (p : Proof) → code_before_key s r p ≡ None → ((creates r.operation && s.there) ≡ false) × ((not (creates r.operation) && not s.there) ≡ false)
unfolding code_before_key
before s r p none =
    let kind = no_row _ 406 _ none in
    let form = no_row _ 404 _ kind.1 in
    let there = no_row (creates r.operation && s.there) 101 _ form.1 in
    let absent = no_row (not (creates r.operation) && not s.there) 100 _ there.1 in
    (there.0, absent.0)

-- what is refused before administrators are looked for has no code 1
early : (s : TableView) (r : Content) (p : Proof) → or_code (code_before_key s r p) 0 ≡ 1 → ⊥
unfolding code_before_key
early s r p one =
    let kind = past_row _ 406 _ 0 (λ e. omega (arith, e)) one in
    let form = past_row _ 404 _ 0 (λ e. omega (arith, e)) kind.1 in
    let there = past_row _ 101 _ 0 (λ e. omega (arith, e)) form.1 in
    let absent = past_row _ 100 _ 0 (λ e. omega (arith, e)) there.1 in
    no_rows_left absent.1

key_stands : (t : Table) (s : TableView) (r : Content) (p : Proof) (o : Option ℕ) (code : ℕ) → code_before_key s r p ≡ o → s ≡ table_view t r → IsCodeBy t r p o code → code ≡ 1 → Stands s r.operation
key_stands t s r p (Some c) code e see is one = absurd (early s r p (ap (λ x. or_code x 0) e ∙ sym is ∙ one))
key_stands t s r p None code e see is one = by_mask is.0 (sym is.2 ∙ one)
  where
    by_mask : (m : Option ℕ) → code_for_key (table_view t r) r p m (value_at t (key_of p)) ≡ 1 → Stands s r.operation
    by_mask None h = absurd (omega (arith, h))
    by_mask (Some mask) h =
        let b = before s r p e in
        let free = behind s r p mask (value_at t (key_of p)) (ap (λ (x : TableView). code_after_key x r p mask (value_at t (key_of p))) see ∙ h) in
        (b.0, b.1, free.0, free.1)

-- ---- the decision

by_code : (a : Algorithm) (t : Table) (s : TableView) (r : Content) (level : Level) (code : ℕ) → (code ≡ 1 → IfSome (change_of (stored_operation r)) (CanApply t)) → IfSome (decision a s r level code).change (CanApply t)
unfolding decision
by_code a t s r level code f = by_test (code == 1) refl (fits a r (carried_content s r level))
  where
    by_test : (b : Bool) → (code == 1) ≡ b → (fit : Bool) → IfSome (cond {A = Decision} b (cond fit (success s r level) (failure 2 Empty)) (failure code Empty)).change (CanApply t)
    by_test true is true = f (eqb-true code 1 is)
    by_test true is false = tt
    by_test false is fit = tt

admitted : (hosts : List ℕ → Bool) (r : Content) → refusal hosts r ≡ None → is_bad_write (stored_operation r) ≡ false
unfolding refusal
admitted hosts r none =
    let unused = no_row _ 5 _ none in
    let named = no_row _ 102 _ unused.1 in
    let listed = no_row _ 102 _ named.1 in
    let made = no_row _ 5 _ listed.1 in
    let hosted = no_row _ 302 _ made.1 in
    (no_row (is_bad_write (stored_operation r)) 202 _ hosted.1).0

decided : (hosts : List ℕ → Bool) (a : Algorithm) (t : Table) (r : Content) (level : Level) (d : Decision) → refusal hosts r ≡ None → HaveTheirIndexes t (handle_of r) (table_view t r).values → DecidesBy a t r level None d → IfSome d.change (CanApply t)
decided hosts a t r Anyone d none by is =
    subst (λ (x : Decision). IfSome x.change (CanApply t)) (sym is)
    (by_code a t (table_view t r) r Anyone (code_for_anyone (table_view t r) r) (λ one. anyone_stands t r.wire r.header r.operation (table_view t r) refl by (admitted hosts r none) one))
decided hosts a t r (Proven p) d none by is =
    subst (λ (x : Decision). IfSome x.change (CanApply t)) (sym is.2)
    (by_code a t (table_view t r) r (Proven p) is.0 (λ one. changes t r.wire r.header r.operation (table_view t r) refl by (admitted hosts r none) (key_stands t (table_view t r) r p (code_before_key (table_view t r) r p) is.0 refl refl is.1 one)))

pub passed : (hosts : List ℕ → Bool) (r : Content) (a : Admitted) (name : List ℕ) → a ≡ Passed name → IsAdmitted hosts r a → refusal hosts r ≡ None
passed hosts r a name is admitted = (subst (IsAdmitted hosts r) is admitted).0

pub can_apply : {E : Type 0} (hosts : List ℕ → Bool) (a : Algorithm) (t : Table) (r : Content) (level : Level) (result : Result code.Decision E) → refusal hosts r ≡ None → IfOk result (λ d. DecidesBy a t r level None (decision_of d))
    → OnOk result (HaveTheirIndexes t (handle_of r) (table_view t r).values) → IfOk result (λ d. IfSome d.change (CanApply t))
can_apply hosts a t r level (Ok d) none is by = decided hosts a t r level (decision_of d) none by is
can_apply hosts a t r level (Err e) none is by = tt
