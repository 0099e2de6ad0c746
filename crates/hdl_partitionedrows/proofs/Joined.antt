-- What two partitions answer together, and what a write of one of them makes of both.
use Rattle.std.proofs.Common.{◌≡◌, ℕ, List, [], ◌∷◌, ◌++◌, Bool, true, false, cond, not, ◌&&◌, ◌||◌, Option, Some, None, Result, Ok, Err, OnOk, OnErr, refl, sym, ap, ◌∙◌, subst, true≢false}
use Rattle.std.specs.List.{AllByRecursion}
use Rattle.std.specs.Ordering.{eq_by_cmp}
use Rattle.std.specs.FinMap as map
use Rattle.std.specs.FinMap.{find}
use Rattle.std.specs.FinSet as set
use Rattle.hdl_value.specs.Place.{Place, handle_cmp, place_cmp, same_handle}
use Rattle.hdl_value.specs.declared.value.Value.{Value}
use Rattle.hdl_value.proofs.Places.{handle_total, handle_antisymmetric, place_total, place_antisymmetric, handles_equal}
use Rattle.hdl_rows.specs.Table.{Table, no_rows, place, has, at, values_of, HaveTheirIndexes}
use Rattle.hdl_rows.specs.Write.{Write, Create, Add, Modify, Remove, Delete, handle_of, after_write, CanWrite}
use Rattle.hdl_rows.proofs.Writes.{same_look_ups_lem, same_values, has_after, at_after, has-after_write, at-after_write}
use Rattle.hdl_partitionedrows.specs.Partitioned.{own, joined}

-- ---- what is read

-- the test of a partition
abbrev pub on : (List ℕ → Bool) → Bool → List ℕ → Bool
on is b h = cond b (is h) (not (is h))

pub contains_own : (is : List ℕ → Bool) (b : Bool) (t : Table) (h : List ℕ) → set.contains (own is b t) h ≡ (has t h && on is b h)
contains_own is b t h = set.contains-retain t.handles (on is b) h (λ x e. ap (on is b) (sym (handle_antisymmetric h x e)))

pub has_joined : (is : List ℕ → Bool) (t u : Table) (h : List ℕ) → has (joined is t u) h ≡ cond (is h) (has u h) (has t h)
has_joined is t u h =
    set.contains-union handle_total (own is false t) (own is true u) h
    ∙ (λ i. contains_own is false t h i || contains_own is true u h i)
    ∙ pick (is h) (has t h) (has u h)
  where
    pick : (b x y : Bool) → ((x && not b) || (y && b)) ≡ cond b y x
    pick true true true = refl
    pick true true false = refl
    pick true false true = refl
    pick true false false = refl
    pick false true y = refl
    pick false false true = refl
    pick false false false = refl

-- the first that is there
either_of : Option Value → Option Value → Option Value
either_of None y = y
either_of (Some x) y = Some x

find_both : (q : Place) (es fs : List (Place × Value)) → find place_cmp q (es ++ fs) ≡ either_of (find place_cmp q es) (find place_cmp q fs)
unfolding either_of
find_both q [] fs = refl
find_both q (e ∷ es) fs = ap (cond (eq_by_cmp place_cmp q e.0) (Some e.1)) (find_both q es fs) ∙ out (eq_by_cmp place_cmp q e.0) (find place_cmp q es)
  where
    out : (b : Bool) (x : Option Value) → cond b (Some e.1) (either_of x (find place_cmp q fs)) ≡ either_of (cond b (Some e.1) x) (find place_cmp q fs)
    out true x = refl
    out false x = refl

pub at_joined : (is : List ℕ → Bool) (t u : Table) (p : Place) → at (joined is t u) p ≡ cond (is p.handle) (at u p) (at t p)
unfolding either_of
at_joined is t u p =
    map.get-from_entries place_total _ p
    ∙ find_both p (map.entries (map.retain_keys t.values (λ q. not (is q.handle)))) (map.entries (map.retain_keys u.values (λ q. is q.handle)))
    ∙ (λ i. either_of (sided t (λ b. not b) i) (sided u (λ b. b) i))
    ∙ pick (is p.handle) (at t p) (at u p)
  where
    sided : (s : Table) (f : Bool → Bool) → find place_cmp p (map.entries (map.retain_keys s.values (λ q. f (is q.handle)))) ≡ cond (f (is p.handle)) (at s p) None
    sided s f = sym (map.get-entries (map.retain_keys s.values (λ q. f (is q.handle))) p) ∙ map.get-retain_keys s.values (λ q. f (is q.handle)) p (λ q e. ap (λ (r : Place). f (is r.handle)) (sym (place_antisymmetric p q e)))

    pick : (b : Bool) (x y : Option Value) → either_of (cond (not b) x None) (cond b y None) ≡ cond b y x
    pick true x y = refl
    pick false None y = refl
    pick false (Some x) y = refl

-- both tables answer alike at a handle
pub record AgreeAt (h : List ℕ) (t u : Table) : Type 0 where
  pub there : has t h ≡ has u h
  pub each : (i : ℕ) → at t (place h i) ≡ at u (place h i)
  pub all : values_of t h ≡ values_of u h

-- at a handle both answer as the partition that it is in
pub agree : (is : List ℕ → Bool) (t u : Table) (h : List ℕ) (b : Bool) → is h ≡ b → AgreeAt h (joined is t u) (cond b u t)
agree is t u h b e =
    let there : (i : ℕ) → at (joined is t u) (place h i) ≡ at (cond b u t) (place h i) = λ i. at_joined is t u (place h i) ∙ ap (λ c. cond c (at u (place h i)) (at t (place h i))) e ∙ out_at b (place h i) in
    record { there = has_joined is t u h ∙ ap (λ c. cond c (has u h) (has t h)) e ∙ out_has b; each = there; all = same_values (joined is t u) (cond b u t) h there }
  where
    out_at : (c : Bool) (p : Place) → cond c (at u p) (at t p) ≡ at (cond c u t) p
    out_at true p = refl
    out_at false p = refl

    out_has : (c : Bool) → cond c (has u h) (has t h) ≡ has (cond c u t) h
    out_has true = refl
    out_has false = refl

-- ---- what is written

each_of : {X : Type 0} (P Q : X → Type 0) (xs : List X) → ((x : X) → P x → Q x) → AllByRecursion P xs → AllByRecursion Q xs
each_of P Q [] f all = tt
each_of P Q (x ∷ xs) f all = (f x all.0, each_of P Q xs f all.1)

-- a write that both can make the partition can
pub can_write : (w : Write) (t u : Table) → AgreeAt (handle_of w) t u → CanWrite t w → CanWrite u w
can_write (Create h vs) t u a can = (sym a.there ∙ can.0, can.1)
can_write (Add h vs) t u a can = (sym a.there ∙ can.0, can.1, each_of _ _ _ (λ i e. sym (a.each i) ∙ e) can.2)
can_write (Modify h vs) t u a can = (sym a.there ∙ can.0, can.1, each_of _ _ _ (λ i e f. e (a.each i ∙ f)) can.2)
can_write (Remove h is) t u a can = (sym a.there ∙ can.0, can.1, each_of _ _ _ (λ i e f. e (a.each i ∙ f)) can.2)
can_write (Delete h) t u a can = sym a.there ∙ can

module _ (is : List ℕ → Bool) (t u : Table) (w : Write) where
  same_side : (b : Bool) → is (handle_of w) ≡ b → (g : List ℕ) → same_handle g (handle_of w) ≡ true → is g ≡ b
  same_side b e g s = ap is (handles_equal g (handle_of w) s) ∙ e

  in_second : {X : Type 0} (f : X → X) (s b : Bool) (x y : X) → (s ≡ true → b ≡ true) → cond s (f (cond b y x)) (cond b y x) ≡ cond b (cond s (f y) y) x
  in_second f true true x y e = refl
  in_second f true false x y e = absurd (true≢false (sym (e refl)))
  in_second f false true x y e = refl
  in_second f false false x y e = refl

  in_first : {X : Type 0} (f : X → X) (s b : Bool) (x y : X) → (s ≡ true → b ≡ false) → cond s (f (cond b y x)) (cond b y x) ≡ cond b y (cond s (f x) x)
  in_first f true true x y e = absurd (true≢false (e refl))
  in_first f true false x y e = refl
  in_first f false true x y e = refl
  in_first f false false x y e = refl

  -- to write into the partition of the handle is to write into both
  pub second_written : is (handle_of w) ≡ true → joined is t (after_write u w) ≡ after_write (joined is t u) w
  second_written e =
      sym (same_look_ups_lem _ _
      (λ g. has-after_write (joined is t u) w g ∙ ap (λ x. cond (same_handle g (handle_of w)) (has_after w x) x) (has_joined is t u g)
      ∙ in_second (has_after w) (same_handle g (handle_of w)) (is g) (has t g) (has u g) (same_side true e g)
      ∙ ap (λ x. cond (is g) x (has t g)) (sym (has-after_write u w g)) ∙ sym (has_joined is t (after_write u w) g))
      (λ p. at-after_write (joined is t u) w p ∙ ap (λ x. cond (same_handle p.handle (handle_of w)) (at_after w p.index x) x) (at_joined is t u p)
      ∙ in_second (at_after w p.index) (same_handle p.handle (handle_of w)) (is p.handle) (at t p) (at u p) (same_side true e p.handle)
      ∙ ap (λ x. cond (is p.handle) x (at t p)) (sym (at-after_write u w p)) ∙ sym (at_joined is t (after_write u w) p)))

  pub first_written : is (handle_of w) ≡ false → joined is (after_write t w) u ≡ after_write (joined is t u) w
  first_written e =
      sym (same_look_ups_lem _ _
      (λ g. has-after_write (joined is t u) w g ∙ ap (λ x. cond (same_handle g (handle_of w)) (has_after w x) x) (has_joined is t u g)
      ∙ in_first (has_after w) (same_handle g (handle_of w)) (is g) (has t g) (has u g) (same_side false e g)
      ∙ ap (cond (is g) (has u g)) (sym (has-after_write t w g)) ∙ sym (has_joined is (after_write t w) u g))
      (λ p. at-after_write (joined is t u) w p ∙ ap (λ x. cond (same_handle p.handle (handle_of w)) (at_after w p.index x) x) (at_joined is t u p)
      ∙ in_first (at_after w p.index) (same_handle p.handle (handle_of w)) (is p.handle) (at t p) (at u p) (same_side false e p.handle)
      ∙ ap (cond (is p.handle) (at u p)) (sym (at-after_write t w p)) ∙ sym (at_joined is (after_write t w) u p)))

  -- the partition of the handle still has no other's
  pub own_after : (b : Bool) → is (handle_of w) ≡ b → own is b t ≡ t.handles → own is b (after_write t w) ≡ (after_write t w).handles
  own_after b e own_is =
      set.same_set handle_total handle_antisymmetric _ _ (λ g.
      contains_own is b (after_write t w) g ∙ ap (λ x. x && on is b g) (has-after_write t w g)
      ∙ kept (same_handle g (handle_of w)) (has t g) (has_after w (has t g)) (on is b g) (sym (contains_own is b t g) ∙ ap (λ s. set.contains s g) own_is) (λ s. ap (λ c. cond b c (not c)) (same_side b e g s) ∙ itself b)
      ∙ sym (has-after_write t w g))
    where
      kept : (s x f o : Bool) → (x && o) ≡ x → (s ≡ true → o ≡ true) → (cond s f x && o) ≡ cond s f x
      kept true x true o e one = one refl
      kept true x false o e one = refl
      kept false x f o e one = e

      itself : (c : Bool) → cond c c (not c) ≡ true
      itself true = refl
      itself false = refl

-- ---- a call of one partition, as its caller knows the table

-- the partition of a handle, by the test of its name
pub sided : (is : List ℕ → Bool) (sent h : List ℕ) (b : Bool) → sent ≡ h → b ≡ is sent → is h ≡ b
sided is sent h b canon e = ap is (sym canon) ∙ sym e

-- The table s is seen whole, v is the partition that the handle is in, by the test of its canonical name.
pub seen : (is : List ℕ → Bool) (t u s v : Table) (sent h : List ℕ) (b : Bool) → sent ≡ h → b ≡ is sent → joined is t u ≡ s → v ≡ cond b u t → AgreeAt h s v
seen is t u s v sent h b canon e whole part = subst (λ a. AgreeAt h a v) whole (subst (AgreeAt h (joined is t u)) (sym part) (agree is t u h b (sided is sent h b canon e)))

pub own_indexes : (s v : Table) (h : List ℕ) (vs : List Value) → AgreeAt h s v → HaveTheirIndexes v h vs → HaveTheirIndexes s h vs
own_indexes s v h vs a own_is i = own_is i ∙ sym (a.each i)

pub second_done : {X E : Type 0} (r : Result X E) (w : Write) (is : List ℕ → Bool) (t u s v n : Table) → is (handle_of w) ≡ true → joined is t u ≡ s → v ≡ u → OnOk r (n ≡ after_write v w) → OnOk r (joined is t n ≡ after_write s w)
second_done (Ok x) w is t u s v n e whole part done = ap (joined is t) (done ∙ ap (λ a. after_write a w) part) ∙ second_written is t u w e ∙ ap (λ a. after_write a w) whole
second_done (Err x) w is t u s v n e whole part done = tt

pub first_done : {X E : Type 0} (r : Result X E) (w : Write) (is : List ℕ → Bool) (t u s v n : Table) → is (handle_of w) ≡ false → joined is t u ≡ s → v ≡ t → OnOk r (n ≡ after_write v w) → OnOk r (joined is n u ≡ after_write s w)
first_done (Ok x) w is t u s v n e whole part done = ap (λ a. joined is a u) (done ∙ ap (λ a. after_write a w) part) ∙ first_written is t u w e ∙ ap (λ a. after_write a w) whole
first_done (Err x) w is t u s v n e whole part done = tt

pub still_own : {X E : Type 0} (r : Result X E) (w : Write) (is : List ℕ → Bool) (t v n : Table) (b : Bool) → is (handle_of w) ≡ b → own is b t ≡ t.handles → v ≡ t → OnOk r (n ≡ after_write v w) → OnErr r (n ≡ v) → own is b n ≡ n.handles
still_own (Ok x) w is t v n b e own_is part done undone = subst (λ (a : Table). own is b a ≡ a.handles) (sym (done ∙ ap (λ a. after_write a w) part)) (own_after is t t w b e own_is)
still_own (Err x) w is t v n b e own_is part done undone = subst (λ (a : Table). own is b a ≡ a.handles) (sym (undone ∙ part)) own_is

-- ---- two empty tables

pub own_none : (is : List ℕ → Bool) (b : Bool) → own is b no_rows ≡ no_rows.handles
own_none is b = set.same_set handle_total handle_antisymmetric _ _ (λ g. contains_own is b no_rows g ∙ ap (λ x. x && on is b g) (set.contains-empty handle_cmp g) ∙ sym (set.contains-empty handle_cmp g))

pub joined_none : (is : List ℕ → Bool) → joined is no_rows no_rows ≡ no_rows
joined_none is = same_look_ups_lem _ _ (λ g. has_joined is no_rows no_rows g ∙ same (is g) (has no_rows g)) (λ p. at_joined is no_rows no_rows p ∙ same (is p.handle) (at no_rows p))
  where
    same : {X : Type 0} (b : Bool) (x : X) → cond b x x ≡ x
    same true x = refl
    same false x = refl
