-- What openings make, for crates above: a new database has all rows, values stay at handles of the set, and no handle is opened twice.
use Rattle.std.proofs.Common.{◌≡◌, ℕ, List, [], ◌∷◌, filter, fold, Bool, true, false, cond, not, ◌||◌, Some, refl, sym, ap, ◌∙◌}
use Rattle.std.specs.FinMap as map
use Rattle.std.specs.FinSet as set
use Rattle.std.specs.List.{AllByRecursion}
use Rattle.hdl_value.specs.Place.{Place, handle_cmp, same_handle, same_place}
use Rattle.hdl_value.proofs.Places.{handle_total, handle_itself, place_total, places_equal}
use Rattle.hdl_rows.specs.Table.{Table, no_rows, at, IsPlaced}
use Rattle.hdl_sqlrows.specs.Opening.{First, handle, place_of, Base, no_base, with_first, noted_with, opened_with, left_to_open, absent}

keep_all : (p : First → Bool) (firsts : List First) → ((x : First) → p x ≡ true) → filter p firsts ≡ firsts
keep_all p [] all = refl
keep_all p (x ∷ firsts) all = λ k. cond (all x k) (x ∷ keep_all p firsts all k) (keep_all p firsts all k)

-- in a new database all handles are opened, and all values put
pub new_base : (firsts : List First) → opened_with no_base firsts ≡ noted_with (record no_base { table = fold with_first no_rows firsts }) firsts
new_base firsts =
    let none : left_to_open set.empty firsts ≡ firsts = keep_all _ firsts (λ x. ap not (set.contains-empty handle_cmp (handle x))) in
    let all : absent no_rows (left_to_open set.empty firsts) ≡ firsts = ap (absent no_rows) none ∙ keep_all _ firsts (λ x. ap not (set.contains-empty handle_cmp (handle x))) in
    λ k. noted_with (record no_base { table = fold with_first no_rows (all k) }) (none k)

or_true : (b : Bool) → (b || true) ≡ true
or_true true = refl
or_true false = refl

placed_first : (t : Table) (first : First) → IsPlaced t → IsPlaced (with_first t first)
placed_first t first placed p v is = set.contains-insert handle_total t.handles (handle first) p.handle ∙ by (same_place p (place_of first)) refl
  where
    by : (e : Bool) → same_place p (place_of first) ≡ e → (same_handle p.handle (handle first) || set.contains t.handles p.handle) ≡ true
    by true here =
        ap (λ (q : Place). same_handle q.handle (handle first) || set.contains t.handles q.handle) (places_equal p (place_of first) here)
        ∙ ap (λ b. b || set.contains t.handles (handle first)) (handle_itself (handle first))
    by false other =
        let before : at t p ≡ Some v = sym (map.get-insert place_total t.values (place_of first) first.1 p ∙ ap (λ b. cond b (Some first.1) (at t p)) other) ∙ is in
        ap (λ b. same_handle p.handle (handle first) || b) (placed p v before) ∙ or_true _

placed_all : (t : Table) (firsts : List First) → IsPlaced t → IsPlaced (fold with_first t firsts)
placed_all t [] placed = placed
placed_all t (first ∷ firsts) placed = placed_all (with_first t first) firsts (placed_first t first placed)

pub stay_placed : (base : Base) (firsts : List First) → IsPlaced base.table → IsPlaced (opened_with base firsts).table
stay_placed base firsts placed = placed_all base.table (absent base.table (left_to_open base.opened firsts)) placed

-- ---- opened once

abbrev noted : set.FinSet handle_cmp → List First → set.FinSet handle_cmp
noted opened firsts = fold (λ o first. set.insert o (handle first)) opened firsts

abbrev Covers : set.FinSet handle_cmp → set.FinSet handle_cmp → Type 0
Covers less more = (h : List ℕ) → set.contains less h ≡ true → set.contains more h ≡ true

covers_one : (less more : set.FinSet handle_cmp) (k : List ℕ) → Covers less more → Covers less (set.insert more k)
covers_one less more k covers h is = set.contains-insert handle_total more k h ∙ ap (λ b. same_handle h k || b) (covers h is) ∙ or_true (same_handle h k)

covers_all : (o : set.FinSet handle_cmp) (firsts : List First) → Covers o (noted o firsts)
covers_all o [] h is = is
covers_all o (first ∷ firsts) h is = covers_all (set.insert o (handle first)) firsts h (covers_one o o (handle first) (λ g e. e) h is)

has_itself : (o : set.FinSet handle_cmp) (h : List ℕ) → set.contains (set.insert o h) h ≡ true
has_itself o h = set.contains-insert handle_total o h h ∙ ap (λ b. b || set.contains o h) (handle_itself h)

-- those that are in a set, and those that are noted because they aren't
all_noted : (less o : set.FinSet handle_cmp) → Covers less o → (firsts : List First) → AllByRecursion (λ first. set.contains (noted o (left_to_open less firsts)) (handle first) ≡ true) firsts
all_noted less o covers [] = tt
all_noted less o covers (first ∷ firsts) = by (set.contains less (handle first)) refl (λ more wide. all_noted less more wide firsts)
  where
    by : (b : Bool) → set.contains less (handle first) ≡ b → ((more : set.FinSet handle_cmp) → Covers less more → AllByRecursion (λ x. set.contains (noted more (left_to_open less firsts)) (handle x) ≡ true) firsts)
        → (set.contains (noted o (cond (not b) (first ∷ left_to_open less firsts) (left_to_open less firsts))) (handle first) ≡ true) × AllByRecursion (λ x. set.contains (noted o (cond (not b) (first ∷ left_to_open less firsts) (left_to_open less firsts))) (handle x) ≡ true) firsts
    by true is rest = (covers_all o (left_to_open less firsts) (handle first) (covers (handle first) is), rest o covers)
    by false is rest =
        let more = set.insert o (handle first) in
        (covers_all more (left_to_open less firsts) (handle first) (has_itself o (handle first)), rest more (covers_one less o (handle first) covers))

-- each handle of a list is noted once the list was opened
pub noted_once : (base : Base) (firsts : List First) → AllByRecursion (λ first. set.contains (opened_with base firsts).opened (handle first) ≡ true) firsts
noted_once base firsts = all_noted base.opened base.opened (λ h is. is) firsts

none_unopened : (opened : set.FinSet handle_cmp) (firsts : List First) → AllByRecursion (λ first. set.contains opened (handle first) ≡ true) firsts → left_to_open opened firsts ≡ []
none_unopened opened [] all = refl
none_unopened opened (first ∷ firsts) all = ap (λ b. cond (not b) (first ∷ left_to_open opened firsts) (left_to_open opened firsts)) all.0 ∙ none_unopened opened firsts all.1

-- where no handle is left to open, an opening changes nothing
pub opens_none : (base : Base) (firsts : List First) → left_to_open base.opened firsts ≡ [] → opened_with base firsts ≡ base
opens_none base firsts none = ap (λ new. noted_with (record base { table = fold with_first base.table (absent base.table new) }) new) none

pub opens_once : (base : Base) (t : Table) (firsts : List First) → opened_with (record (opened_with base firsts) { table = t }) firsts ≡ record (opened_with base firsts) { table = t }
opens_once base t firsts = opens_none (record (opened_with base firsts) { table = t }) firsts (none_unopened (opened_with base firsts).opened firsts (noted_once base firsts))
