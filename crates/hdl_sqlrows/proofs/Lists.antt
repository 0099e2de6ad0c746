-- A row that is put among others, and the maps that the rows make.
use Rattle.std.proofs.Common.{◌≡◌, ◌≤◌, List, [], ◌∷◌, ◌++◌, map, filter, length, arith, Bool, true, false, cond, ◌||◌, None, Some, Option, refl, sym, ap, subst, ◌∙◌}
use Rattle.std.specs.declared.cmp.Ordering.{Ordering}
use Rattle.std.specs.declared.cmp.Ordering.TheVariants.{Less, Equal, Greater}
use Rattle.std.specs.List.{AllByRecursion, list_any}
use Rattle.std.specs.Cmp.{IsTotalOrder}
use Rattle.std.specs.Ordering.{is_eq, eq_by_cmp, match_ordering}
use Rattle.std.specs.FinMap.{find, get, insert, from_entries, get-from_entries, get-insert, same_map, IsAntisymmetric}
use Rattle.std.specs.FinSet as set
use Rattle.std.proofs.lemmas.List.{map-append}
use Rattle.sqlite_value.specs.Order.{Row, value_cmp}
use Rattle.sqlite_trees.specs.Tree.{rowid, put_row}
use Rattle.sqlite_rules.specs.Edit.{is_taken}
use Rattle.hdl_value.proofs.Places.{tied}

-- two tests that don't hold at once, in either order
swapped : {A : Type 0} (a b : Bool) (x y z : A) → (a ≡ true → b ≡ true → ⊥) → cond a x (cond b y z) ≡ cond b y (cond a x z)
swapped true true x y z apart = absurd (apart refl refl)
swapped true false x y z apart = refl
swapped false b x y z apart = refl

-- the lists are equal but for one element more
pub record HasOneMore {X : Type 0} (x : X) (old new : List X) : Type 0 where
  pub before : List X
  pub behind : List X
  pub was : old ≡ before ++ behind
  pub is : new ≡ before ++ x ∷ behind

later : {X : Type 0} (x y : X) (old new : List X) → HasOneMore x old new → HasOneMore x (y ∷ old) (y ∷ new)
later x y old new h = record { before = y ∷ h.before; behind = h.behind; was = ap (λ xs. y ∷ xs) h.was; is = ap (λ xs. y ∷ xs) h.is }

times_step : {X : Type 0} (a b : Bool) (x y : X) (F G : List X) → length F ≡ length (cond b (x ∷ G) G) → length (cond a (y ∷ F) F) ≡ length (cond b (x ∷ cond a (y ∷ G) G) (cond a (y ∷ G) G))
times_step true true x y F G e = omega (arith, e)
times_step true false x y F G e = omega (arith, e)
times_step false true x y F G e = e
times_step false false x y F G e = e

times_more : {X : Type 0} (p : X → Bool) (x : X) (before behind : List X) → length (filter p (before ++ x ∷ behind)) ≡ length (filter p (x ∷ (before ++ behind)))
times_more p x [] behind = refl
times_more p x (y ∷ before) behind = times_step (p y) (p x) x y (filter p (before ++ x ∷ behind)) (filter p (before ++ behind)) (times_more p x before behind)

-- one element more leaves one for each key at most, where there was none of its keys
pub single_put : {X K : Type 0} (test : K → X → Bool) (x : X) (old new : List X) → HasOneMore x old new → ((k : K) → length (filter (test k) old) ≤ 1)
    → ((k : K) → test k x ≡ true → length (filter (test k) old) ≡ 0) → (k : K) → length (filter (test k) new) ≤ 1
single_put test x old new h single none k = by_test (test k x) refl
  where
    count : length (filter (test k) new) ≡ length (cond (test k x) (x ∷ filter (test k) old) (filter (test k) old))
    count = ap (λ xs. length (filter (test k) xs)) h.is ∙ times_more (test k) x h.before h.behind ∙ ap (λ xs. length (cond (test k x) (x ∷ filter (test k) xs) (filter (test k) xs))) (sym h.was)

    by_test : (b : Bool) → test k x ≡ b → length (filter (test k) new) ≤ 1
    by_test true is = let n : length (filter (test k) new) ≡ length (x ∷ filter (test k) old) = count ∙ ap (λ b. length (cond b (x ∷ filter (test k) old) (filter (test k) old))) is in omega (arith, n, none k is)
    by_test false is = let n : length (filter (test k) new) ≡ length (filter (test k) old) = count ∙ ap (λ b. length (cond b (x ∷ filter (test k) old) (filter (test k) old))) is in omega (arith, n, single k)

-- a row with a new rowid is put somewhere among the others
pub put_fresh : (new : Row) (rows : List Row) → is_taken rows new ≡ false → HasOneMore new rows (put_row new rows)
put_fresh new [] fresh = record { before = []; behind = []; was = refl; is = refl }
put_fresh new (r ∷ rows) fresh =
    elim (value_cmp (rowid r) (rowid new)) as (λ o. (is_eq o || is_taken rows new) ≡ false → HasOneMore new (r ∷ rows) (match_ordering o (r ∷ put_row new rows) (new ∷ rows) (new ∷ r ∷ rows))) [
      | Less ↦ λ h. later new r rows _ (put_fresh new rows h)
      | Equal ↦ λ h. absurd cc
      | Greater ↦ λ h. record { before = []; behind = r ∷ rows; was = refl; is = refl }
    ] fresh

all_more : {X : Type 0} (P : X → Type 0) (x : X) (before behind : List X) → AllByRecursion P (before ++ behind) → P x → AllByRecursion P (before ++ x ∷ behind)
all_more P x [] behind all here = (here, all)
all_more P x (y ∷ before) behind all here = (all.0, all_more P x before behind all.1 here)

pub all_put : {X : Type 0} (P : X → Type 0) (x : X) (old new : List X) → HasOneMore x old new → AllByRecursion P old → P x → AllByRecursion P new
all_put P x old new h all here = subst (AllByRecursion P) (sym h.is) (all_more P x h.before h.behind (subst (AllByRecursion P) h.was all) here)

pub map_put : {X Y : Type 0} (f : X → Y) (x : X) (old new : List X) → HasOneMore x old new → HasOneMore (f x) (map f old) (map f new)
map_put f x old new h = record { before = map f h.before; behind = map f h.behind; was = ap (map f) h.was ∙ map-append f h.before h.behind; is = ap (map f) h.is ∙ map-append f h.before (x ∷ h.behind) }

no_some : {A : Type 0} (b : Bool) (x : A) (rest : Option A) → cond b (Some x) rest ≡ None → (b ≡ false) × (rest ≡ None)
no_some true x rest h = absurd cc
no_some false x rest h = (refl, h)

module _ {K X : Type 0} {R : K → K → Ordering} (o : IsTotalOrder R) where
  find_more : (before behind : List (K × X)) (k : K) (v : X) (q : K) → find R k (before ++ behind) ≡ None
      → find R q (before ++ (k, v) ∷ behind) ≡ cond (eq_by_cmp R q k) (Some v) (find R q (before ++ behind))
  find_more [] behind k v q none = refl
  find_more (e ∷ before) behind k v q none =
      let both = no_some (is_eq (R k e.0)) e.1 _ none in
      ap (cond (is_eq (R q e.0)) (Some e.1)) (find_more before behind k v q both.1)
      ∙ swapped (is_eq (R q e.0)) (is_eq (R q k)) (Some e.1) (Some v) _ (λ at_e at_k. let tie = o.congr q k e.0 (tied _ at_k) in absurd (let a : true ≡ false = sym at_e ∙ ap is_eq tie ∙ both.0 in cc))

  -- the map of the entries with one more, whose key is new
  pub map_of_more : IsAntisymmetric R → (old new : List (K × X)) (k : K) (v : X) → HasOneMore (k, v) old new → get (from_entries {R = R} old) k ≡ None
      → from_entries {R = R} new ≡ insert (from_entries old) k v
  map_of_more same old new k v h none =
      let absent = ap (find R k) (sym h.was) ∙ sym (get-from_entries o old k) ∙ none in
      same_map o same _ _ (λ q. get-from_entries o new q ∙ ap (find R q) h.is ∙ find_more h.before h.behind k v q absent
      ∙ sym (get-insert o (from_entries old) k v q ∙ ap (cond (eq_by_cmp R q k) (Some v)) (get-from_entries o old q ∙ ap (find R q) h.was)))

any_more : {X : Type 0} (p : X → Bool) (x : X) (before behind : List X) → list_any p (before ++ x ∷ behind) ≡ (p x || list_any p (before ++ behind))
any_more p x [] behind = refl
any_more p x (y ∷ before) behind = ap (λ b. p y || b) (any_more p x before behind) ∙ turn (p y) (p x) _
  where
    turn : (a b c : Bool) → (a || (b || c)) ≡ (b || (a || c))
    turn true true c = refl
    turn true false c = refl
    turn false b c = refl

-- the set of the items with one more
pub set_of_more : {K : Type 0} {R : K → K → Ordering} (o : IsTotalOrder R) → IsAntisymmetric R → (old new : List K) (k : K) → HasOneMore k old new
    → set.from_list {R = R} new ≡ set.insert (set.from_list old) k
set_of_more {R = R} o same old new k h =
    set.same_set o same _ _ (λ q. set.contains-from_list o new q ∙ ap (list_any (eq_by_cmp R q)) h.is ∙ any_more (eq_by_cmp R q) k h.before h.behind
    ∙ sym (set.contains-insert o (set.from_list old) k q ∙ ap (λ b. eq_by_cmp R q k || b) (set.contains-from_list o old q ∙ ap (list_any (eq_by_cmp R q)) h.was)))
