-- What the text of a publisher's export opens with agrees with the table that it was written of.
use Rattle.std.proofs.Common.{◌≡◌, ℕ, zero, suc, ◌<◌, Bool, true, false, cond, ◌||◌, ◌&&◌, List, [], ◌∷◌, ◌++◌, length, get_or, map, Contains, Option, Some, None, refl, sym, ap, subst, ◌∙◌, arith, IsTrue, true≢false}
use Rattle.std.specs.Prelude.{codes, option_to_list, is_some}
use Rattle.std.specs.List.{AllByRecursion, flat_map, list_any}
use Rattle.std.specs.Str.{bytes_eq}
use Rattle.std.specs.FinMap as map
use Rattle.std.specs.FinMap.{find}
use Rattle.std.specs.FinSet as set
use Rattle.std.proofs.lemmas.Slice.Eq.{bytes_eq-Decides}
use Rattle.std.proofs.lemmas.List.Elements.{Contains-append_right}
use Rattle.hdl_name.specs.Name.{canonical, prefix, authority, local}
use Rattle.hdl_value.specs.declared.value.Value.{Value}
use Rattle.hdl_value.specs.Place.{Place, handle_cmp, place_cmp, same_handle, same_place}
use Rattle.hdl_value.specs.Refs.{refs_of}
use Rattle.hdl_value.proofs.Places.{handle_total, handle_antisymmetric, place_total, place_antisymmetric, handles_equal, handle_itself, places_equal, place_itself}
use Rattle.hdl_rows.specs.Table.{Table, has, at, values_of, names_of, IsPlaced, key}
use Rattle.hdl_rows.specs.Table as table
use Rattle.hdl_reach.specs.Reach as reach
use Rattle.hdl_reach.specs.Laws.{IsOnward}
use Rattle.hdl_tenants.specs.Register.{Row, place}
use Rattle.hdl_laws.specs.Isolation.{Covers, EachCovered, Agrees, IsClosed}
use Rattle.hdl_laws.proofs.Maps.{get-retained, contains-retained, each_value}
use Rattle.hdl_core.specs.Opening.{entry_of, opening_table}
use Rattle.hdl_export.specs.Prefixes.{AreAmong}
use Rattle.hdl_export.specs.Rows.{is_among, is_written, rows_at, rows_under, rows_in, foreign_at, foreign_rows}
use Rattle.hdl_export.specs.Laws.{IsExpressible}
use Rattle.hdl_export.proofs.Walks.{any_mapped, any_there}
use Rattle.hdl_export.proofs.Feeds.{all_joined}

-- ---- lists

both_ways : (a b : Bool) → (a ≡ true → b ≡ true) → (b ≡ true → a ≡ true) → a ≡ b
both_ways true b f g = sym (f refl)
both_ways false true f g = g refl
both_ways false false f g = refl

either_way : (a b : Bool) → b ≡ true → (a || b) ≡ true
either_way true b h = refl
either_way false b h = h

any_front : {X : Type 0} (p : X → Bool) (xs ys : List X) → list_any p xs ≡ true → list_any p (xs ++ ys) ≡ true
any_front p [] ys h = absurd (true≢false (sym h))
any_front p (x ∷ xs) ys h = by (p x) refl (any_front p xs ys)
  where
    by : (b : Bool) → p x ≡ b → (list_any p xs ≡ true → list_any p (xs ++ ys) ≡ true) → (p x || list_any p (xs ++ ys)) ≡ true
    by true e later = ap (λ b. b || list_any p (xs ++ ys)) e
    by false e later = either_way (p x) (list_any p (xs ++ ys)) (later (sym (ap (λ b. b || list_any p xs) e) ∙ h))

any_back : {X : Type 0} (p : X → Bool) (xs ys : List X) → list_any p ys ≡ true → list_any p (xs ++ ys) ≡ true
any_back p [] ys h = h
any_back p (x ∷ xs) ys h = either_way (p x) (list_any p (xs ++ ys)) (any_back p xs ys h)

-- what is found of one element is found of all
any_flat : {X Y : Type 0} (m : X → Bool) (p : Y → Bool) (g : X → List Y) → ((x : X) → m x ≡ true → list_any p (g x) ≡ true) → (xs : List X) → list_any m xs ≡ true → list_any p (flat_map g xs) ≡ true
any_flat m p g f [] h = absurd (true≢false (sym h))
any_flat m p g f (x ∷ xs) h = by (m x) refl (any_flat m p g f xs)
  where
    by : (b : Bool) → m x ≡ b → (list_any m xs ≡ true → list_any p (flat_map g xs) ≡ true) → list_any p (g x ++ flat_map g xs) ≡ true
    by true e later = any_front p (g x) (flat_map g xs) (f x e)
    by false e later = any_back p (g x) (flat_map g xs) (later (sym (ap (λ b. b || list_any m xs) e) ∙ h))

any_contained : (xs : List (List ℕ)) (x : List ℕ) (i : ℕ) → i < length xs → get_or xs i x ≡ x → list_any (λ y. bytes_eq x y) xs ≡ true
any_contained [] x i lt e = absurd (omega (arith, lt))
any_contained (y ∷ xs) x zero lt e = ap (λ b. b || list_any (λ z. bytes_eq x z) xs) ((bytes_eq-Decides x y).1 (sym e))
any_contained (y ∷ xs) x (suc i) lt e = either_way (bytes_eq x y) _ (any_contained xs x i (omega (arith, lt)) e)

all_each : {X Y : Type 0} (P : Y → Type 0) (g : X → List Y) → ((x : X) → AllByRecursion P (g x)) → (xs : List X) → AllByRecursion P (flat_map g xs)
all_each P g f [] = tt
all_each P g f (x ∷ xs) = all_joined P (g x) (flat_map g xs) (f x) (all_each P g f xs)

all_mapped : {X Y : Type 0} (P : Y → Type 0) (g : X → Y) (xs : List X) → AllByRecursion (λ x. P (g x)) xs → AllByRecursion P (map g xs)
all_mapped P g [] h = tt
all_mapped P g (x ∷ xs) h = (h.0, all_mapped P g xs h.1)

some_not_none : {X : Type 0} (v : X) (o : Option X) → o ≡ Some v → o ≡ None → ⊥
some_not_none v o e n = true≢false (ap is_some (sym e ∙ n))

gate : {X : Type 0} (b : Bool) (x : Option X) (v : X) → cond b x None ≡ Some v → (b ≡ true) × (x ≡ Some v)
gate true x v e = (refl, e)
gate false x v e = absurd (some_not_none v None e refl)

either_same : {X : Type 0} (b : Bool) (x : X) → x ≡ cond b x x
either_same true x = refl
either_same false x = refl

abbrev held : {X : Type 0} → X → Option X → X
held d None = d
held d (Some x) = x

one_held : {X : Type 0} (x y : X) → Some x ≡ Some y → x ≡ y
one_held x y same = ap (held x) same

-- ---- rows of a table

abbrev is_there : Place → List Row → Bool
is_there p all = list_any (λ (row : Row). same_place p (place row)) all

module _ (t : Table) where
  abbrev IsRowOf : Row → Type 0
  IsRowOf row = at t (place row) ≡ Some row.1

  found : (all : List Row) (p : Place) → AllByRecursion IsRowOf all → find place_cmp p (map entry_of all) ≡ cond (is_there p all) (at t p) None
  found [] p h = refl
  found (row ∷ all) p h = by (same_place p (place row)) refl (found all p h.1)
    where
      by : (b : Bool) → same_place p (place row) ≡ b → find place_cmp p (map entry_of all) ≡ cond (is_there p all) (at t p) None → cond b (Some row.1) (find place_cmp p (map entry_of all)) ≡ cond (b || is_there p all) (at t p) None
      by true e rest = sym h.0 ∙ ap (at t) (sym (places_equal p (place row) e))
      by false e rest = rest

  same_at : (all : List Row) (p : Place) → AllByRecursion IsRowOf all → ((v : Value) → at t p ≡ Some v → is_there p all ≡ true) → at t p ≡ at (opening_table all) p
  same_at all p h complete = by (at t p) refl ∙ sym (map.get-from_entries place_total (map entry_of all) p ∙ found all p h)
    where
      by : (o : Option Value) → at t p ≡ o → at t p ≡ cond (is_there p all) (at t p) None
      by None e = e ∙ either_same (is_there p all) None ∙ ap (λ x. cond (is_there p all) x None) (sym e)
      by (Some v) e = ap (λ b. cond b (at t p) None) (sym (complete v e))

  -- ---- handles

  has_opened : (all : List Row) (h : List ℕ) → has (opening_table all) h ≡ list_any (λ (row : Row). same_handle h (canonical row.0)) all
  has_opened all h = set.contains-from_list handle_total (map (λ (row : Row). canonical row.0) all) h ∙ any_mapped (same_handle h) (λ (row : Row). canonical row.0) all

  handle_there : (all : List Row) (p : Place) → is_there p all ≡ true → list_any (λ (row : Row). same_handle p.handle (canonical row.0)) all ≡ true
  handle_there [] p h = absurd (true≢false (sym h))
  handle_there (row ∷ all) p h = by (same_place p (place row)) refl (handle_there all p)
    where
      by : (b : Bool) → same_place p (place row) ≡ b → (is_there p all ≡ true → list_any (λ (r : Row). same_handle p.handle (canonical r.0)) all ≡ true) → list_any (λ (r : Row). same_handle p.handle (canonical r.0)) (row ∷ all) ≡ true
      by true e later = ap (λ b. b || list_any (λ (r : Row). same_handle p.handle (canonical r.0)) all) (subst (λ (q : Place). same_handle p.handle q.handle ≡ true) (places_equal p (place row) e) (handle_itself p.handle))
      by false e later = either_way (same_handle p.handle (canonical row.0)) _ (later (sym (ap (λ b. b || is_there p all) e) ∙ h))

  handle_sound : IsPlaced t → (all : List Row) (h : List ℕ) → AllByRecursion IsRowOf all → list_any (λ (row : Row). same_handle h (canonical row.0)) all ≡ true → has t h ≡ true
  handle_sound placed [] h sound e = absurd (true≢false (sym e))
  handle_sound placed (row ∷ all) h sound e = by (same_handle h (canonical row.0)) refl (handle_sound placed all h sound.1)
    where
      by : (b : Bool) → same_handle h (canonical row.0) ≡ b → (list_any (λ (r : Row). same_handle h (canonical r.0)) all ≡ true → has t h ≡ true) → has t h ≡ true
      by true is later = ap (has t) (handles_equal h (canonical row.0) is) ∙ placed (place row) row.1 sound.0
      by false is later = later (sym (ap (λ b. b || list_any (λ (r : Row). same_handle h (canonical r.0)) all) is) ∙ e)

  -- what a row that is there refers to is covered
  covered_there : (C : List Place) (all : List Row) (p : Place) (v : Value) → AllByRecursion IsRowOf all → EachCovered C (map (λ (row : Row). row.1) all) → is_there p all ≡ true → at t p ≡ Some v → Covers C (refs_of v)
  covered_there C [] p v sound covered h is = absurd (true≢false (sym h))
  covered_there C (row ∷ all) p v sound covered h is = by (same_place p (place row)) refl (λ k. covered_there C all p v sound.1 covered.1 k is)
    where
      by : (b : Bool) → same_place p (place row) ≡ b → (is_there p all ≡ true → Covers C (refs_of v)) → Covers C (refs_of v)
      by true e later = subst (λ (x : Value). Covers C (refs_of x)) (one_held row.1 v (sym sound.0 ∙ ap (at t) (sym (places_equal p (place row) e)) ∙ is)) covered.0
      by false e later = later (sym (ap (λ b. b || is_there p all) e) ∙ h)

-- ---- the rows that are written

module _ (prefixes : List (List ℕ)) (t : Table) (say : IsExpressible prefixes t) where
  row_of : (p : Place) (v : Value) → at t p ≡ Some v → (h : List ℕ) → canonical h ≡ p.handle → IsRowOf t (h, v)
  row_of p v is h same =
      let here : place (h, v) ≡ p = λ i. record { handle = same i; index = say.indexed p v is i } in
      ap (at t) here ∙ is

  values_sound : (h : List ℕ) → AllByRecursion (IsRowOf t) (map (λ (v : Value). (h, v)) (values_of t (canonical h)))
  values_sound h =
      all_mapped (IsRowOf t) (λ (v : Value). (h, v)) (values_of t (canonical h))
      (each_value place_total (λ (v : Value). IsRowOf t (h, v)) (map.retain_keys t.values (λ p. same_handle p.handle (canonical h))) (λ p v e.
      let there = gate (same_handle p.handle (canonical h)) (at t p) v (sym (get-retained place_antisymmetric t.values (λ q. same_handle q.handle (canonical h)) p) ∙ e) in
      row_of p v there.1 h (sym (handles_equal p.handle (canonical h) there.0))))

  rows_at_sound : (h : List ℕ) → AllByRecursion (IsRowOf t) (rows_at prefixes t h)
  rows_at_sound h = by (is_written prefixes h)
    where
      by : (b : Bool) → AllByRecursion (IsRowOf t) (map (λ (v : Value). (h, v)) (cond b (values_of t (canonical h)) []))
      by true = values_sound h
      by false = tt

  own_sound : (authorities : List (List ℕ)) → AllByRecursion (IsRowOf t) (rows_in prefixes authorities t)
  own_sound authorities = all_each (IsRowOf t) (rows_under prefixes t) (λ a. all_each (IsRowOf t) (rows_at prefixes t) rows_at_sound (names_of t a)) authorities

  own_name : (p : Place) (v : Value) → at t p ≡ Some v → canonical p.handle ≡ p.handle
  own_name p v is = say.canonical p.handle (say.placed p v is)

  foreign_sound : (C : List Place) → AllByRecursion (IsRowOf t) (foreign_rows prefixes t C)
  foreign_sound C = all_each (IsRowOf t) (foreign_at prefixes t) each C
    where
      each : (p : Place) → AllByRecursion (IsRowOf t) (foreign_at prefixes t p)
      each p = by (is_among (prefix p.handle) prefixes)
        where
          at_one : (o : Option Value) → at t p ≡ o → AllByRecursion (IsRowOf t) (map (λ (v : Value). (p.handle, v)) (option_to_list o))
          at_one None e = tt
          at_one (Some v) e = (row_of p v e p.handle (own_name p v e), tt)

          by : (b : Bool) → AllByRecursion (IsRowOf t) (cond b [] (map (λ (v : Value). (p.handle, v)) (option_to_list (at t p))))
          by true = tt
          by false = at_one (at t p) refl

  -- ---- all of them

  found_key : (q : List ℕ) (ks : List (List ℕ)) → is_some (find handle_cmp q (map key ks)) ≡ list_any (same_handle q) ks
  found_key q [] = refl
  found_key q (k ∷ ks) = by (same_handle q k) (found_key q ks)
    where
      by : (b : Bool) → is_some (find handle_cmp q (map key ks)) ≡ list_any (same_handle q) ks → is_some (cond b (Some tt) (find handle_cmp q (map key ks))) ≡ (b || list_any (same_handle q) ks)
      by true e = refl
      by false e = e

  named_there : (h a : List ℕ) → has t h ≡ true → same_handle (authority h) a ≡ true → list_any (same_handle h) (names_of t a) ≡ true
  named_there h a there of =
      let s = set.retain t.handles (λ g. same_handle (authority g) a) in
      let m = map.from_entries {R = handle_cmp} (map key (set.items s)) in
      let held : set.contains s h ≡ true = contains-retained handle_antisymmetric t.handles (λ g. same_handle (authority g) a) h ∙ (λ i. there i && of i) in
      sym (map.contains_key-keys m h) ∙ ap is_some (map.get-from_entries handle_total (map key (set.items s)) h) ∙ found_key h (set.items s) ∙ sym (set.contains-items s h) ∙ held

  found_value : (es : List (Place × Value)) (p : Place) (v : Value) (h : List ℕ) → place (h, v) ≡ p → find place_cmp p es ≡ Some v → is_there p (map (λ (x : Value). (h, x)) (map (λ (e : Place × Value). e.1) es)) ≡ true
  found_value [] p v h same is = absurd (some_not_none v None is refl)
  found_value (e ∷ es) p v h same is = by (same_place p e.0) refl (found_value es p v h same)
    where
      by : (b : Bool) → same_place p e.0 ≡ b → (find place_cmp p es ≡ Some v → is_there p (map (λ (x : Value). (h, x)) (map (λ (f : Place × Value). f.1) es)) ≡ true) → is_there p (map (λ (x : Value). (h, x)) (map (λ (f : Place × Value). f.1) (e ∷ es))) ≡ true
      by true at_e later =
          let one : e.1 ≡ v = one_held e.1 v (sym (ap (λ b. cond b (Some e.1) (find place_cmp p es)) at_e) ∙ is) in
          ap (λ b. b || is_there p (map (λ (x : Value). (h, x)) (map (λ (f : Place × Value). f.1) es))) (ap (λ (x : Value). same_place p (place (h, x))) one ∙ ap (same_place p) same ∙ place_itself p)
      by false at_e later = either_way (same_place p (place (h, e.1))) _ (later (sym (ap (λ b. cond b (Some e.1) (find place_cmp p es)) at_e) ∙ is))

  value_there : (p : Place) (v : Value) → at t p ≡ Some v → is_there p (map (λ (x : Value). (p.handle, x)) (values_of t (canonical p.handle))) ≡ true
  value_there p v is =
      let same = own_name p v is in
      let m = map.retain_keys t.values (λ q. same_handle q.handle (canonical p.handle)) in
      let kept : same_handle p.handle (canonical p.handle) ≡ true = ap (same_handle p.handle) same ∙ handle_itself p.handle in
      let held : map.get m p ≡ Some v = get-retained place_antisymmetric t.values (λ q. same_handle q.handle (canonical p.handle)) p ∙ ap (λ b. cond b (at t p) None) kept ∙ is in
      let here : place (p.handle, v) ≡ p = λ i. record { handle = same i; index = say.indexed p v is i } in
      found_value (map.entries m) p v p.handle here (sym (map.get-entries m p) ∙ held)

  rows_at_there : (p : Place) (v : Value) → at t p ≡ Some v → is_among (prefix p.handle) prefixes ≡ true → is_there p (rows_at prefixes t p.handle) ≡ true
  rows_at_there p v is own =
      let there = say.placed p v is in
      let written : is_written prefixes p.handle ≡ true = λ i. say.named p.handle there own i && own i in
      ap (λ b. is_there p (map (λ (x : Value). (p.handle, x)) (cond b (values_of t (canonical p.handle)) []))) written ∙ value_there p v is

  authority_there : (h : List ℕ) (authorities : List (List ℕ)) → AreAmong (codes "0.na" ∷ prefixes) authorities → is_among (prefix h) prefixes ≡ true → Contains authorities (authority h)
  authority_there h authorities all own = by (bytes_eq (authority h) (codes "0.na")) refl
    where
      by : (b : Bool) → bytes_eq (authority h) (codes "0.na") ≡ b → Contains authorities (authority h)
      by true e = all (authority h) (0, omega arith, sym ((bytes_eq-Decides (authority h) (codes "0.na")).0 e))
      by false e =
          let same : prefix h ≡ authority h = ap (λ b. cond b (local h) (authority h)) e in
          all (authority h) (Contains-append_right (codes "0.na" ∷ []) prefixes (authority h) (any_there (authority h) prefixes (sym (ap (λ (q : List ℕ). is_among q prefixes) same) ∙ own)))

  own_there : (authorities : List (List ℕ)) → AreAmong (codes "0.na" ∷ prefixes) authorities → (p : Place) (v : Value) → at t p ≡ Some v → is_among (prefix p.handle) prefixes ≡ true → is_there p (rows_in prefixes authorities t) ≡ true
  own_there authorities all p v is own =
      let known = authority_there p.handle authorities all own in
      any_flat (λ a. bytes_eq (authority p.handle) a) (λ (row : Row). same_place p (place row)) (rows_under prefixes t)
      (λ a of.
      any_flat (same_handle p.handle) (λ (row : Row). same_place p (place row)) (rows_at prefixes t)
      (λ h here. subst (λ (g : List ℕ). is_there p (rows_at prefixes t g) ≡ true) (handles_equal p.handle h here) (rows_at_there p v is own))
      (names_of t a) (named_there p.handle a (say.placed p v is) (subst (λ (b : List ℕ). same_handle (authority p.handle) b ≡ true) ((bytes_eq-Decides (authority p.handle) a).0 of) (handle_itself (authority p.handle)))))
      authorities (any_contained authorities (authority p.handle) known.0 known.1 known.2)

  foreign_there : (C : List Place) (p : Place) (v : Value) → at t p ≡ Some v → is_among (prefix p.handle) prefixes ≡ false → IsTrue (reach.is_among p C) → is_there p (foreign_rows prefixes t C) ≡ true
  foreign_there C p v is foreign among = any_flat (same_place p) (λ (row : Row). same_place p (place row)) (foreign_at prefixes t) (λ c here. subst (λ (q : Place). is_there p (foreign_at prefixes t q) ≡ true) (places_equal p c here) one) C among
    where
      one : is_there p (foreign_at prefixes t p) ≡ true
      one =
          let here : place (p.handle, v) ≡ p = λ i. record { handle = own_name p v is i; index = say.indexed p v is i } in
          let row : foreign_at prefixes t p ≡ (p.handle, v) ∷ [] = (λ i. cond (foreign i) [] (map (λ (x : Value). (p.handle, x)) (option_to_list (is i)))) in
          ap (is_there p) row ∙ ap (λ b. b || false) (ap (same_place p) here ∙ place_itself p)

  module _ (authorities : List (List ℕ)) (all : AreAmong (codes "0.na" ∷ prefixes) authorities) (C : List Place) where
    abbrev opened : List Row
    opened = rows_in prefixes authorities t ++ foreign_rows prefixes t C

    sound : AllByRecursion (IsRowOf t) opened
    sound = all_joined (IsRowOf t) (rows_in prefixes authorities t) (foreign_rows prefixes t C) (own_sound authorities) (foreign_sound C)

    own_in : (p : Place) (v : Value) → at t p ≡ Some v → is_among (prefix p.handle) prefixes ≡ true → is_there p opened ≡ true
    own_in p v is mine = any_front (λ (row : Row). same_place p (place row)) (rows_in prefixes authorities t) (foreign_rows prefixes t C) (own_there authorities all p v is mine)

    covered_in : (p : Place) (v : Value) → at t p ≡ Some v → IsTrue (reach.is_among p C) → is_there p opened ≡ true
    covered_in p v is among = by (is_among (prefix p.handle) prefixes) refl
      where
        by : (b : Bool) → is_among (prefix p.handle) prefixes ≡ b → is_there p opened ≡ true
        by true mine = own_in p v is mine
        by false foreign = any_back (λ (row : Row). same_place p (place row)) (rows_in prefixes authorities t) (foreign_rows prefixes t C) (foreign_there C p v is foreign among)

    pub agrees : Agrees (λ q. is_among q prefixes) C t (opening_table opened)
    agrees = record {
      handles = λ h mine. both_ways (has t h) (has (opening_table opened) h)
          (λ there.
          let one = say.valued h there mine in
          has_opened t opened h ∙ handle_there t opened (table.place h one.0) (own_in (table.place h one.0) one.1 one.2 mine))
          (λ there. handle_sound t say.placed opened h sound (sym (has_opened t opened h) ∙ there));
      rows = λ p mine. same_at t opened p sound (λ v is. own_in p v is mine);
      covered = λ p among. same_at t opened p sound (λ v is. covered_in p v is among);
    }

    pub closed : EachCovered C (map (λ (row : Row). row.1) (rows_in prefixes authorities t)) → IsOnward t C → IsClosed (λ q. is_among q prefixes) C t
    closed covered onward = record {
      rows = λ p v mine is. covered_there t C (rows_in prefixes authorities t) p v (own_sound authorities) covered (own_there authorities all p v is mine) is;
      onward = onward;
    }
