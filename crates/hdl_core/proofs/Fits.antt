-- A change fits what is found of its handle just where the table can have it.
use Rattle.std.proofs.Common.{◌≡◌, ◌≢◌, ◌+◌, ◌-◌, ◌^◌, ℕ, List, [], ◌∷◌, map, Bool, true, false, cond, not, ◌&&◌, ◌||◌, ◌==◌, Option, Some, None, Result, Ok, Err, IfOk, option_map, is_some, is_none, refl, sym, ap, ◌∙◌, subst, map-id, true≢false, arith}
use Rattle.std.specs.Prelude.{Vec}
use Rattle.std.specs.declared.alloc.Global.{Global}
use Rattle.std.proofs.Math.Nat.{min-le_left}
use Rattle.std.specs.List.{AllByRecursion, list_any}
use Rattle.std.proofs.lemmas.Bool.{eqb-true}
use Rattle.hdl_name.specs.Name.{canonical}
use Rattle.hdl_value.specs.declared.value.Value.{Value}
use Rattle.hdl_rows.specs.Heads.{head, heads_of}
use Rattle.hdl_rows.specs.Reads.{reads_after, values_octets}
use Rattle.hdl_rows.specs.declared.reads.TheConstants.{CALL_OCTETS}
use Rattle.hdl_rows.specs.declared.rows.Refused.{Refused}
use Rattle.hdl_rows.specs.Table.{Table, place, has, at, values_of, values_in, value_with, HaveTheirIndexes, AreAbsent, ArePresent, AreDistinct, indexes}
use Rattle.hdl_reach.specs.Cost.{ReadsWithin, heads_cost}
use Rattle.hdl_reach.proofs.Costs.{heads_read, unread}
use Rattle.hdl_ops.specs.Admission.{has_twins}
use Rattle.hdl_ops.specs.Proven.{misses_at, takes_at}
use Rattle.hdl_ops.specs.Tables.{apply, CanApply}
use Rattle.hdl_ops.specs.declared.change.Change.{Change}
use Rattle.hdl_ops.specs.declared.change.Change.TheVariants.{Create, Delete, Add, Remove, Modify}
use Rattle.hdl_ops.proofs.Applied.{distinct_keys}
use Rattle.hdl_tenants.specs.Register.{Register}
use Rattle.hdl_laws.specs.Worlds.{with_table}
use Rattle.hdl_core.specs.Held.{Held}
use Rattle.hdl_core.specs.Worlds.{world_of}
use Rattle.hdl_core.specs.Letting.{name_of, is_fit}

-- ---- tests of lists

or_false : (a b : Bool) → (a || b) ≡ false → (a ≡ false) × (b ≡ false)
or_false true b h = absurd (true≢false h)
or_false false b h = (refl, h)

and_true : (a b : Bool) → (a && b) ≡ true → (a ≡ true) × (b ≡ true)
and_true true b h = (refl, h)
and_true false b h = absurd (true≢false (sym h))

not_true : (b : Bool) → not b ≡ true → b ≡ false
not_true true h = absurd (true≢false (sym h))
not_true false h = refl

none_passes : (test : ℕ → Bool) (P : ℕ → Type 0) → ((i : ℕ) → test i ≡ false → P i) → (is : List ℕ) → list_any test is ≡ false → AllByRecursion P is
none_passes test P f [] h = tt
none_passes test P f (i ∷ is) h = let both = or_false (test i) (list_any test is) h in (f i both.0, none_passes test P f is both.1)

all_fail : (test : ℕ → Bool) (P : ℕ → Type 0) → ((i : ℕ) → P i → test i ≡ false) → (is : List ℕ) → AllByRecursion P is → list_any test is ≡ false
all_fail test P f [] all = refl
all_fail test P f (i ∷ is) all = λ k. f i all.0 k || all_fail test P f is all.1 k

are_distinct : (is : List ℕ) → has_twins (λ i. i) is ≡ false → AreDistinct is
are_distinct is h = subst AreDistinct (map-id is) (distinct_keys (λ i. i) is h)

differs : (i j : ℕ) → i ≢ j → (j == i) ≡ false
differs i j apart = by_test (j == i) refl
  where
    by_test : (b : Bool) → (j == i) ≡ b → b ≡ false
    by_test true e = absurd (apart (sym (eqb-true j i e)))
    by_test false e = refl

no_twins : (is : List ℕ) → AreDistinct is → has_twins (λ i. i) is ≡ false
no_twins [] apart = refl
no_twins (i ∷ is) apart = λ k. all_fail (λ j. j == i) (λ j. i ≢ j) (differs i) is apart.0 k || no_twins is apart.1 k

-- ---- what stands at a handle, by its heads

with_heads : (i : ℕ) (vs : List Value) → value_with i (map head vs) ≡ option_map head (value_with i vs)
with_heads i [] = refl
with_heads i (v ∷ vs) = by_test (v.index == i) (with_heads i vs)
  where
    by_test : (b : Bool) → value_with i (map head vs) ≡ option_map head (value_with i vs) → cond b (Some (head v)) (value_with i (map head vs)) ≡ option_map head (cond b (Some v) (value_with i vs))
    by_test true e = refl
    by_test false e = e

none_head : (o : Option Value) → is_none (option_map head o) ≡ is_none o
none_head None = refl
none_head (Some v) = refl

some_head : (o : Option Value) → is_some (option_map head o) ≡ is_some o
some_head None = refl
some_head (Some v) = refl

none_if : (o : Option Value) → is_some o ≡ false → o ≡ None
none_if None h = refl
none_if (Some v) h = absurd (true≢false h)

none_not : (o : Option Value) → o ≢ None → is_none o ≡ false
none_not None there = absurd (there refl)
none_not (Some v) there = refl

module _ (t : Table) (h : List ℕ) (vs : List Value) (by : HaveTheirIndexes t h vs) where
  missing : (i : ℕ) → misses_at (map head vs) i ≡ is_none (at t (place h i))
  missing i = ap is_none (with_heads i vs) ∙ none_head (value_with i vs) ∙ ap is_none (by i)

  taken : (i : ℕ) → takes_at (map head vs) i ≡ is_some (at t (place h i))
  taken i = ap is_some (with_heads i vs) ∙ some_head (value_with i vs) ∙ ap is_some (by i)

  are_absent : (is : List ℕ) → list_any (takes_at (map head vs)) is ≡ false → AreAbsent t h is
  are_absent is none = none_passes (takes_at (map head vs)) (λ i. at t (place h i) ≡ None) (λ i e. none_if (at t (place h i)) (sym (taken i) ∙ e)) is none

  none_taken : (is : List ℕ) → AreAbsent t h is → list_any (takes_at (map head vs)) is ≡ false
  none_taken is absent = all_fail (takes_at (map head vs)) (λ i. at t (place h i) ≡ None) (λ i e. taken i ∙ ap is_some e) is absent

  are_present : (is : List ℕ) → list_any (misses_at (map head vs)) is ≡ false → ArePresent t h is
  are_present is none = none_passes (misses_at (map head vs)) (λ i. at t (place h i) ≢ None) (λ i e gone. true≢false (sym (ap is_none gone) ∙ sym (missing i) ∙ e)) is none

  none_missing : (is : List ℕ) → ArePresent t h is → list_any (misses_at (map head vs)) is ≡ false
  none_missing is present = all_fail (misses_at (map head vs)) (λ i. at t (place h i) ≢ None) (λ i there. missing i ∙ none_not (at t (place h i)) there) is present

-- ---- changes

pub can_apply : (t : Table) (change : Change) (vs : List Value) → HaveTheirIndexes t (canonical (name_of change)) vs → is_fit (has t (canonical (name_of change))) (map head vs) change ≡ true → CanApply t change
can_apply t (Create name values) vs by fit =
    let both = and_true (not (has_twins (λ i. i) (indexes values))) (not (has t (canonical name))) fit in
    (not_true (has t (canonical name)) both.1, are_distinct (indexes values) (not_true (has_twins (λ i. i) (indexes values)) both.0))
can_apply t (Delete name) vs by fit = fit
can_apply t (Add name values) vs by fit =
    let taken = list_any (takes_at (map head vs)) (indexes values) in
    let both = and_true (not (has_twins (λ i. i) (indexes values))) (has t (canonical name) && not taken) fit in
    let there = and_true (has t (canonical name)) (not taken) both.1 in
    (there.0, are_distinct (indexes values) (not_true (has_twins (λ i. i) (indexes values)) both.0), are_absent t (canonical name) vs by (indexes values) (not_true taken there.1))
can_apply t (Remove name is) vs by fit =
    let missing = list_any (misses_at (map head vs)) is in
    let both = and_true (not (has_twins (λ i. i) is)) (has t (canonical name) && not missing) fit in
    let there = and_true (has t (canonical name)) (not missing) both.1 in
    (there.0, are_distinct is (not_true (has_twins (λ i. i) is) both.0), are_present t (canonical name) vs by is (not_true missing there.1))
can_apply t (Modify name values) vs by fit =
    let missing = list_any (misses_at (map head vs)) (indexes values) in
    let both = and_true (not (has_twins (λ i. i) (indexes values))) (has t (canonical name) && not missing) fit in
    let there = and_true (has t (canonical name)) (not missing) both.1 in
    (there.0, are_distinct (indexes values) (not_true (has_twins (λ i. i) (indexes values)) both.0), are_present t (canonical name) vs by (indexes values) (not_true missing there.1))

fits : (t : Table) (change : Change) (vs : List Value) → HaveTheirIndexes t (canonical (name_of change)) vs → CanApply t change → is_fit (has t (canonical (name_of change))) (map head vs) change ≡ true
fits t (Create name values) vs by can = λ k. not (no_twins (indexes values) can.1 k) && not (can.0 k)
fits t (Delete name) vs by can = can
fits t (Add name values) vs by can = λ k. not (no_twins (indexes values) can.1 k) && (can.0 k && not (none_taken t (canonical name) vs by (indexes values) can.2 k))
fits t (Remove name is) vs by can = λ k. not (no_twins is can.1 k) && (can.0 k && not (none_missing t (canonical name) vs by is can.2 k))
fits t (Modify name values) vs by can = λ k. not (no_twins (indexes values) can.1 k) && (can.0 k && not (none_missing t (canonical name) vs by (indexes values) can.2 k))

pub cannot_apply : (t : Table) (change : Change) (vs : List Value) → HaveTheirIndexes t (canonical (name_of change)) vs → is_fit (has t (canonical (name_of change))) (map head vs) change ≡ false → ¬ CanApply t change
cannot_apply t change vs by unfit can = true≢false (sym (fits t change vs by can) ∙ unfit)

-- what is found of the change's handle decides whether the table can have it
pub decided : (t : Table) (change : Change) (name : List ℕ) (found : Option (Vec Value Global)) (b : Bool) → name ≡ name_of change → is_some found ≡ has t (canonical name) → values_in found ≡ heads_of t (canonical name)
    → HaveTheirIndexes t (canonical name) (values_of t (canonical name)) → b ≡ is_fit (is_some found) (values_in found) change → (b ≡ true → CanApply t change) × (b ≡ false → ¬ CanApply t change)
decided t change name found b named there heads by is =
    let same : b ≡ is_fit (has t (canonical (name_of change))) (heads_of t (canonical (name_of change))) change =
    is ∙ (λ i. is_fit (there i) (heads i) change) ∙ (λ i. is_fit (has t (canonical (named i))) (heads_of t (canonical (named i))) change) in
    let by' : HaveTheirIndexes t (canonical (name_of change)) (values_of t (canonical (name_of change))) = subst (λ (n : List ℕ). HaveTheirIndexes t (canonical n) (values_of t (canonical n))) named by in
    (λ fit. can_apply t change (values_of t (canonical (name_of change))) by' (sym same ∙ fit), λ unfit. cannot_apply t change (values_of t (canonical (name_of change))) by' (sym same ∙ unfit))

-- one look at the heads of a handle, or one that was refused
pub found_read : (t : Table) (h : List ℕ) (result : Result (Option (Vec Value Global)) Refused) (old new : ℕ) → new ≡ reads_after (λ all. values_octets (values_in all)) result old → IfOk result (λ all. values_in all ≡ heads_of t h) → ReadsWithin t heads_cost old new
found_read t h (Ok all) old new reads found =
    let gave : values_octets (values_in all) ≡ values_octets (heads_of t h) = ap values_octets found in
    heads_read t h old new (omega (arith, reads, gave, min-le_left (old + (CALL_OCTETS + values_octets (values_in all))) (2 ^ 64 - 1)))
found_read t h (Err e) old new reads found = unread t heads_cost old new reads

-- ---- the world

module _ (r : Register) (b : Bool) (lanes : List Held) (t : Table) (change : Change) where
  pub in_world : (t' : Table) (moment : ℕ) → CanApply t change × (t' ≡ apply t moment change)
      → CanApply (world_of r b lanes t).table change × (world_of r b lanes t' ≡ with_table (world_of r b lanes t) (apply (world_of r b lanes t).table moment change))
  unfolding world_of
  in_world t' moment done = (done.0, λ i. world_of r b lanes (done.1 i))

  pub unfit_in_world : ¬ CanApply t change → ¬ CanApply (world_of r b lanes t).table change
  unfolding world_of
  unfit_in_world unfit = unfit
