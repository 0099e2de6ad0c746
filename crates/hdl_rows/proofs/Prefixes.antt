-- The handles of an authority lie between it with a slash and it with the octet that follows the slash.
use Rattle.std.proofs.Common.{◌≡◌, ℕ, List, [], ◌∷◌, ◌++◌, map, filter, Bool, true, false, cond, not, ◌&&◌, ◌||◌, refl, sym, ap, ◌∙◌, subst, true≢false, Result, Ok, Err, OnOk, OnErr, is_gt}
use Rattle.std.specs.Cmp.{nat_cmp_total, tied_itself}
use Rattle.std.specs.List.{AllByRecursion, list_any}
use Rattle.std.specs.Ordering.{ordering_then, is_le}
use Rattle.std.specs.FinSet as set
use Rattle.hdl_name.specs.Name.{authority, local, canonical, slash}
use Rattle.hdl_value.specs.Place.{handle_cmp, same_handle}
use Rattle.hdl_value.specs.declared.value.Value.{Value}
use Rattle.hdl_value.proofs.Places.{handle_total, handles_equal, handle_itself}
use Rattle.hdl_rows.specs.Table.{Table, no_rows, has, names_of, with_new_handle, without_handle}
use Rattle.hdl_rows.specs.Write.{Create, Delete}
use Rattle.hdl_rows.specs.RowStore.{entries_of, table_of, AreInOrder, HasAuthority, HaveAuthorities}
use Rattle.hdl_rows.proofs.Writes.{has-after_write}
use Rattle.hdl_rows.proofs.ShelfLemmas.{names_of-table}
use Rattle.hdl_rows.proofs.RowsLemmas.{Entries}

-- the octet that follows the slash
abbrev pub after_slash : ℕ
after_slash = 48

behind : (a x y : List ℕ) → handle_cmp (a ++ x) (a ++ y) ≡ handle_cmp x y
behind [] x y = refl
behind (o ∷ a) x y = ap (λ c. ordering_then c (handle_cmp (a ++ x) (a ++ y))) (tied_itself nat_cmp_total o) ∙ behind a x y

pub forward : (a first next : List ℕ) → first ≡ a ++ slash ∷ [] → next ≡ a ++ after_slash ∷ [] → is_gt (handle_cmp first next) ≡ false
forward a first next from to = (λ i. is_gt (handle_cmp (from i) (to i))) ∙ ap is_gt (behind a (slash ∷ []) (after_slash ∷ []))

-- whether a handle lies between the two
abbrev pub lies_between : List ℕ → List ℕ → List ℕ → Bool
lies_between first next h = is_le (handle_cmp first h) && not (is_le (handle_cmp next h))

after_all : (rest : List ℕ) → lies_between (slash ∷ []) (after_slash ∷ []) (slash ∷ rest) ≡ true
after_all [] = refl
after_all (o ∷ rest) = refl

between : (a h rest : List ℕ) → h ≡ a ++ slash ∷ rest → lies_between (a ++ slash ∷ []) (a ++ after_slash ∷ []) h ≡ true
between a h rest is =
    ap (lies_between (a ++ slash ∷ []) (a ++ after_slash ∷ [])) is
    ∙ (λ i. is_le (behind a (slash ∷ []) (slash ∷ rest) i) && not (is_le (behind a (after_slash ∷ []) (slash ∷ rest) i)))
    ∙ after_all rest

-- ---- the handles that lie there

-- a test is asked of those alone that a weaker one lets pass
none_lost : {X : Type 0} (b : Bool) (x : X) (xs : List X) → (b ≡ true → false ≡ true) → xs ≡ cond b (x ∷ xs) xs
none_lost true x xs weaker = absurd (true≢false (sym (weaker refl)))
none_lost false x xs weaker = refl

within : (p q : List ℕ → Bool) (es : Entries) → AllByRecursion (λ e. p e.0.items ≡ true → q e.0.items ≡ true) es
    → filter p (map (λ e. e.0.items) (filter (λ e. q e.0.items) es)) ≡ filter p (map (λ e. e.0.items) es)
within p q [] all = refl
within p q (e ∷ es) all = by_test (q e.0.items) all.0 (within p q es all.1)
  where
    by_test : (b : Bool) → (p e.0.items ≡ true → b ≡ true) → filter p (map (λ e. e.0.items) (filter (λ e. q e.0.items) es)) ≡ filter p (map (λ e. e.0.items) es)
        → filter p (map (λ e. e.0.items) (cond b (e ∷ filter (λ e. q e.0.items) es) (filter (λ e. q e.0.items) es)))
        ≡ cond (p e.0.items) (e.0.items ∷ filter p (map (λ e. e.0.items) es)) (filter p (map (λ e. e.0.items) es))
    by_test true weaker rest = ap (λ (hs : List (List ℕ)). cond (p e.0.items) (e.0.items ∷ hs) hs) rest
    by_test false weaker rest = rest ∙ none_lost (p e.0.items) e.0.items (filter p (map (λ e. e.0.items) es)) weaker

or_true : (a b : Bool) → b ≡ true → (a || b) ≡ true
or_true true b e = refl
or_true false b e = e

each_member : (P : List ℕ → Type 0) (es : Entries) → ((h : List ℕ) → list_any (same_handle h) (map (λ e. e.0) (entries_of es)) ≡ true → P h) → AllByRecursion (λ e. P e.0.items) es
each_member P [] f = tt
each_member P (e ∷ es) f =
    (f e.0.items (ap (λ b. b || list_any (same_handle e.0.items) (map (λ e. e.0) (entries_of es))) (handle_itself e.0.items)), each_member P es (λ h there. f h (or_true (same_handle h e.0.items) _ there)))

names_in : (es : Entries) → map (λ e. e.0.items) es ≡ map (λ e. e.0) (entries_of es)
names_in [] = refl
names_in (e ∷ es) = ap (λ (hs : List (List ℕ)). e.0.items ∷ hs) (names_in es)

module _ (t : Table) (es : Entries) (a first next : List ℕ) (view : table_of (entries_of es) ≡ t) (order : AreInOrder (entries_of es)) (have : HaveAuthorities t) where
  each_between : first ≡ a ++ slash ∷ [] → next ≡ a ++ after_slash ∷ [] → AllByRecursion (λ e. same_handle (authority e.0.items) a ≡ true → lies_between first next e.0.items ≡ true) es
  each_between from to = each_member (λ h. same_handle (authority h) a ≡ true → lies_between first next h ≡ true) es (λ h member of.
      let there : has t h ≡ true = ap (λ (u : Table). has u h) (sym view) ∙ set.contains-from_list handle_total (map (λ e. e.0) (entries_of es)) h ∙ member in
      let its : HasAuthority h = have h there in
      (λ i. lies_between (from i) (to i) h) ∙ between a h its.0 (its.1 ∙ ap (λ (g : List ℕ). g ++ slash ∷ its.0) (handles_equal (authority h) a of)))

  pub names_between : (r : Entries) → first ≡ a ++ slash ∷ [] → next ≡ a ++ after_slash ∷ [] → r ≡ filter (λ e. lies_between first next e.0.items) es
      → filter (λ h. same_handle (authority h) a) (map (λ e. e.0.items) r) ≡ names_of t a
  names_between r from to is =
      ap (λ (fs : Entries). filter (λ h. same_handle (authority h) a) (map (λ e. e.0.items) fs)) is
      ∙ within (λ h. same_handle (authority h) a) (lies_between first next) es (each_between from to)
      ∙ ap (filter (λ h. same_handle (authority h) a)) (names_in es)
      ∙ sym (names_of-table (entries_of es) a order.handles)
      ∙ ap (λ (u : Table). names_of u a) view

-- ---- each handle of a table keeps its authority

pub canonical_has : (n h : List ℕ) → h ≡ canonical n → authority n ≡ authority (canonical n) → HasAuthority h
canonical_has n h is own = (local n, is ∙ ap (λ (a : List ℕ). a ++ slash ∷ local n) (own ∙ ap authority (sym is)))

pub none_have : (t : Table) → t ≡ no_rows → HaveAuthorities t
none_have t is = subst HaveAuthorities (sym is) (λ h there. absurd (true≢false (sym there ∙ set.contains-empty handle_cmp h)))

created_have : (t : Table) (h : List ℕ) (vs : List Value) → HaveAuthorities t → HasAuthority h → HaveAuthorities (with_new_handle t h vs)
created_have t h vs have its = λ g there. by g (same_handle g h) refl (sym (has-after_write t (Create h vs) g) ∙ there)
  where
    by : (g : List ℕ) (b : Bool) → same_handle g h ≡ b → cond b true (has t g) ≡ true → HasAuthority g
    by g true e there = subst HasAuthority (sym (handles_equal g h e)) its
    by g false e there = have g there

deleted_have : (t : Table) (h : List ℕ) → HaveAuthorities t → HaveAuthorities (without_handle t h)
deleted_have t h have = λ g there. by g (same_handle g h) (sym (has-after_write t (Delete h) g) ∙ there)
  where
    by : (g : List ℕ) (b : Bool) → cond b false (has t g) ≡ true → HasAuthority g
    by g true there = absurd (true≢false (sym there))
    by g false there = have g there

pub have_after_create : {E : Type 0} (r : Result (Unit {0}) E) (t u : Table) (h : List ℕ) (vs : List Value) → HaveAuthorities t → HasAuthority h → OnOk r (u ≡ with_new_handle t h vs) → OnErr r (u ≡ t) → HaveAuthorities u
have_after_create (Ok x) t u h vs have its done undone = subst HaveAuthorities (sym done) (created_have t h vs have its)
have_after_create (Err e) t u h vs have its done undone = subst HaveAuthorities (sym undone) have

pub have_after_delete : (t u : Table) (h : List ℕ) → HaveAuthorities t → u ≡ without_handle t h → HaveAuthorities u
have_after_delete t u h have is = subst HaveAuthorities (sym is) (deleted_have t h have)
