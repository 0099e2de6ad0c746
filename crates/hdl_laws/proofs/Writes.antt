-- What a write leaves of the hosted rows and at C.
use Rattle.std.proofs.Common.{◌≡◌, ℕ, List, [], ◌∷◌, Bool, true, false, cond, not, ◌&&◌, ◌||◌, Option, Some, None, map, refl, sym, ap, ◌∙◌, subst, is_eq, IsTrue, IsFalse, unwrap_or, is_some, true≢false}
use Rattle.std.specs.List.{AllByRecursion, list_any}
use Rattle.std.specs.Ordering.{nat_cmp}
use Rattle.std.specs.FinSet as set
use Rattle.hdl_name.specs.Name.{prefix}
use Rattle.hdl_value.specs.declared.value.Value.{Value}
use Rattle.hdl_value.specs.Place.{Place, same_handle, same_place}
use Rattle.hdl_value.specs.Refs.{refs_of, value_grants, listed_places}
use Rattle.hdl_value.proofs.Places.{handle_total, handle_antisymmetric, place_antisymmetric, handles_equal}
use Rattle.hdl_rows.specs.Table.{Table, has, at}
use Rattle.hdl_rows.specs.Write as write
use Rattle.hdl_rows.specs.Write.{Write, handle_of}
use Rattle.hdl_rows.proofs.Writes.{apart, some_none, same_look_ups_lem, put_at, removed_at, at_after, has_after, at-after_write, has-after_write}
use Rattle.hdl_reach.specs.Reach.{is_among, listed_in}
use Rattle.hdl_reach.proofs.Members.{among_first, among_back, or_true}
use Rattle.hdl_ops.specs.declared.change.Change.{Change}
use Rattle.hdl_ops.specs.declared.change.Change.TheVariants.{Create, Delete, Add, Remove, Modify}
use Rattle.hdl_ops.specs.Tables.{write_of, with_timestamp, stamped_write, apply, apply_if}
use Rattle.hdl_laws.specs.Isolation.{Agrees, IsClosed, Covers, EachCovered, changed_values, values_written, is_retained, restrict_table, foreign_handles}
use Rattle.hdl_laws.proofs.Maps.{get-retained, contains-retained, gated_and}

-- the handle that a change writes
abbrev pub written_handle : Change → List ℕ
written_handle c = handle_of (write_of c)

pub stamped_handle : (moment : ℕ) (w : Write) → handle_of (stamped_write moment w) ≡ handle_of w
stamped_handle moment (write.Create h vs) = refl
stamped_handle moment (write.Delete h) = refl
stamped_handle moment (write.Add h vs) = refl
stamped_handle moment (write.Remove h is) = refl
stamped_handle moment (write.Modify h vs) = refl

-- ---- what a write leaves was there, or is among its values

module _ (Q : Value → Type 0) where
  put_from : (vs : List Value) (i : ℕ) (x : Option Value) (v : Value) → AllByRecursion Q vs → ((y : Value) → x ≡ Some y → Q y) → put_at vs i x ≡ Some v → Q v
  put_from [] i x v all was e = was v e
  put_from (w ∷ vs) i x v all was e = put_from vs i (cond (is_eq (nat_cmp i w.index)) (Some w) x) v all.1 (λ y k. chosen (is_eq (nat_cmp i w.index)) y k) e
    where
      chosen : (b : Bool) (y : Value) → cond b (Some w) x ≡ Some y → Q y
      chosen true y k = subst Q (ap (λ o. unwrap_or o y) k) all.0
      chosen false y k = was y k

  removed_from : (is : List ℕ) (i : ℕ) (x : Option Value) (v : Value) → ((y : Value) → x ≡ Some y → Q y) → removed_at is i x ≡ Some v → Q v
  removed_from [] i x v was e = was v e
  removed_from (j ∷ js) i x v was e = removed_from js i (cond (is_eq (nat_cmp i j)) None x) v (λ y k. kept (is_eq (nat_cmp i j)) y k) e
    where
      kept : (b : Bool) (y : Value) → cond b None x ≡ Some y → Q y
      kept true y k = absurd (some_none y (sym k))
      kept false y k = was y k

  left_from : (moment : ℕ) (c : Change) (i : ℕ) (x : Option Value) (v : Value) → AllByRecursion Q (map (with_timestamp moment) (changed_values c)) → ((y : Value) → x ≡ Some y → Q y)
      → at_after (stamped_write moment (write_of c)) i x ≡ Some v → Q v
  left_from moment (Create name vs) i x v all was e = put_from (map (with_timestamp moment) vs) i x v all was e
  left_from moment (Delete name) i x v all was e = absurd (some_none v (sym e))
  left_from moment (Add name vs) i x v all was e = put_from (map (with_timestamp moment) vs) i x v all was e
  left_from moment (Remove name is) i x v all was e = removed_from is i x v was e
  left_from moment (Modify name vs) i x v all was e = put_from (map (with_timestamp moment) vs) i x v all was e

  from_change : (t : Table) (moment : ℕ) (c : Change) (p : Place) → AllByRecursion Q (map (with_timestamp moment) (changed_values c)) → ((y : Value) → at t p ≡ Some y → Q y)
      → (v : Value) → at (apply t moment c) p ≡ Some v → Q v
  from_change t moment c p all was v e = either (same_handle p.handle (handle_of w)) (sym (at-after_write t w p) ∙ e)
    where
      w : Write
      w = stamped_write moment (write_of c)

      either : (b : Bool) → cond b (at_after w p.index (at t p)) (at t p) ≡ Some v → Q v
      either true k = left_from moment c p.index (at t p) v all was k
      either false k = was v k

-- ---- restriction and writes of hosted rows

gate_written : {X : Type 0} (same keep : Bool) (f : Option X → Option X) (x : Option X) → (same ≡ true → keep ≡ true) → cond keep (cond same (f x) x) None ≡ cond same (f (cond keep x None)) (cond keep x None)
gate_written true true f x k = refl
gate_written true false f x k = absurd (true≢false (sym (k refl)))
gate_written false keep f x k = refl

plain : (b : Bool) → ((b && true) || false) ≡ b
plain true = refl
plain false = refl

gate_there : (same mine foreign x : Bool) (f : Bool → Bool) → (same ≡ true → mine ≡ true) → (mine ≡ true → foreign ≡ false) → ((cond same (f x) x && mine) || foreign) ≡ cond same (f ((x && mine) || foreign)) ((x && mine) || foreign)
gate_there true true true x f k n = absurd (true≢false (n refl))
gate_there true true false x f k n = plain (f x) ∙ ap f (sym (plain x))
gate_there true false foreign x f k n = absurd (true≢false (sym (k refl)))
gate_there false mine foreign x f k n = refl

gated : {X : Type 0} (b : Bool) (x y : Option X) → (b ≡ true → x ≡ y) → cond b x None ≡ cond b y None
gated true x y f = f refl
gated false x y f = refl

or_cases : (a b : Bool) (P : Type 0) → (a ≡ true → P) → (b ≡ true → P) → (a || b) ≡ true → P
or_cases true b P f g e = f refl
or_cases false b P f g e = g e

module _ (hosted : List ℕ → Bool) (C : List Place) where
  at-restrict_table : (t : Table) (p : Place) → at (restrict_table hosted C t) p ≡ cond (is_retained hosted C p) (at t p) None
  unfolding restrict_table
  at-restrict_table t p = get-retained place_antisymmetric t.values (is_retained hosted C) p

  has-restrict_table : (t : Table) (h : List ℕ) → has (restrict_table hosted C t) h ≡ ((has t h && hosted (prefix h)) || list_any (same_handle h) (foreign_handles hosted C t))
  unfolding restrict_table
  has-restrict_table t h =
      set.contains-union handle_total (set.retain t.handles (λ g. hosted (prefix g))) (set.from_list (foreign_handles hosted C t)) h
      ∙ (λ i. contains-retained handle_antisymmetric t.handles (λ g. hosted (prefix g)) h i || set.contains-from_list handle_total (foreign_handles hosted C t) h i)

  -- a hosted handle is none of the foreign ones
  none_foreign : (t : Table) (h : List ℕ) (ks : List Place) → IsTrue (hosted (prefix h)) → list_any (same_handle h) (foreign_handles hosted ks t) ≡ false
  none_foreign t h [] mine = refl
  none_foreign t h (k ∷ ks) mine =
      pick (hosted (prefix k.handle)) (is_some (at t k)) _ (λ theirs. apart h k.handle (λ is. true≢false (sym mine ∙ ap (λ g. hosted (prefix g)) is ∙ theirs))) (none_foreign t h ks mine)
    where
      pick : (b c : Bool) (ms : List Place) → (b ≡ false → same_handle h k.handle ≡ false) → list_any (same_handle h) (map (λ p. p.handle) ms) ≡ false → list_any (same_handle h) (map (λ p. p.handle) (cond (not b && c) (k ∷ ms) ms)) ≡ false
      pick true c ms f rest = rest
      pick false true ms f rest = ap (λ b. b || list_any (same_handle h) (map (λ p. p.handle) ms)) (f refl) ∙ rest
      pick false false ms f rest = rest

  -- the foreign handles are the same where the foreign values at C are
  foreign_same : (t u : Table) (ks : List Place) → ((p : Place) → IsTrue (is_among p ks) → IsFalse (hosted (prefix p.handle)) → at t p ≡ at u p) → foreign_handles hosted ks t ≡ foreign_handles hosted ks u
  foreign_same t u [] f = refl
  foreign_same t u (k ∷ ks) f =
      pick (hosted (prefix k.handle)) (at t k) (at u k) _ _ (f k (among_first k ks)) (foreign_same t u ks (λ p m e. f p (or_true (same_place p k) (is_among p ks) m) e))
    where
      pick : (b : Bool) (x y : Option Value) (ms ns : List Place) → (b ≡ false → x ≡ y) → map (λ p. p.handle) ms ≡ map (λ p. p.handle) ns → map (λ p. p.handle) (cond (not b && is_some x) (k ∷ ms) ms) ≡ map (λ p. p.handle) (cond (not b && is_some y) (k ∷ ns) ns)
      pick true x y ms ns g e = e
      pick false x y ms ns g e = λ i. both (is_some (g refl i)) i
        where
          both : (b : Bool) → map (λ p. p.handle) (cond b (k ∷ ms) ms) ≡ map (λ p. p.handle) (cond b (k ∷ ns) ns)
          both true = ap (λ hs. k.handle ∷ hs) e
          both false = e

  -- to write hosted rows and to restrict is to restrict and to write
  restrict-after_write : (t : Table) (w : Write) → IsTrue (hosted (prefix (handle_of w))) → restrict_table hosted C (write.after_write t w) ≡ write.after_write (restrict_table hosted C t) w
  restrict-after_write t w mine =
      let own : (h : List ℕ) → same_handle h (handle_of w) ≡ true → hosted (prefix h) ≡ true = λ h e. ap (λ g. hosted (prefix g)) (handles_equal h (handle_of w) e) ∙ mine in
      let elsewhere : (p : Place) → IsFalse (hosted (prefix p.handle)) → at (write.after_write t w) p ≡ at t p =
      λ p theirs. at-after_write t w p ∙ ap (λ b. cond b (at_after w p.index (at t p)) (at t p)) (apart p.handle (handle_of w) (λ is. true≢false (sym mine ∙ ap (λ g. hosted (prefix g)) (sym is) ∙ theirs))) in
      same_look_ups_lem _ _
      (λ h.
      has-restrict_table (write.after_write t w) h
      ∙ (λ i. (has-after_write t w h i && hosted (prefix h)) || list_any (same_handle h) (foreign_same (write.after_write t w) t C (λ p m theirs. elsewhere p theirs) i))
      ∙ gate_there (same_handle h (handle_of w)) (hosted (prefix h)) (list_any (same_handle h) (foreign_handles hosted C t)) (has t h) (has_after w) (own h) (none_foreign t h C)
      ∙ ap (λ x. cond (same_handle h (handle_of w)) (has_after w x) x) (sym (has-restrict_table t h))
      ∙ sym (has-after_write (restrict_table hosted C t) w h))
      (λ p.
      at-restrict_table (write.after_write t w) p
      ∙ ap (λ x. cond (is_retained hosted C p) x None) (at-after_write t w p)
      ∙ gate_written (same_handle p.handle (handle_of w)) (is_retained hosted C p) (at_after w p.index) (at t p) (λ e. ap (λ b. b || is_among p C) (own p.handle e))
      ∙ ap (λ x. cond (same_handle p.handle (handle_of w)) (at_after w p.index x) x) (sym (at-restrict_table t p))
      ∙ sym (at-after_write (restrict_table hosted C t) w p))

  pub restrict-apply_if : (t : Table) (moment : ℕ) (c : Option Change) → ((x : Change) → c ≡ Some x → IsTrue (hosted (prefix (written_handle x)))) → restrict_table hosted C (apply_if t moment c) ≡ apply_if (restrict_table hosted C t) moment c
  restrict-apply_if t moment None mine = refl
  restrict-apply_if t moment (Some c) mine = restrict-after_write t (stamped_write moment (write_of c)) (ap (λ h. hosted (prefix h)) (stamped_handle moment (write_of c)) ∙ mine c refl)

  -- ---- restriction sees only the hosted rows and C

  pub restrict_same : (t u : Table) → Agrees hosted C t u → restrict_table hosted C t ≡ restrict_table hosted C u
  restrict_same t u agree =
      same_look_ups_lem _ _
      (λ h.
      has-restrict_table t h
      ∙ (λ i. gated_and (hosted (prefix h)) (has t h) (has u h) (agree.handles h) i || list_any (same_handle h) (foreign_same t u C (λ p m theirs. agree.covered p m) i))
      ∙ sym (has-restrict_table u h))
      (λ p.
      at-restrict_table t p
      ∙ gated (is_retained hosted C p) (at t p) (at u p) (or_cases _ _ _ (agree.rows p) (agree.covered p))
      ∙ sym (at-restrict_table u p))

  pub restrict_agrees : (t : Table) → Agrees hosted C t (restrict_table hosted C t)
  restrict_agrees t = record {
    handles = λ h mine. sym (has-restrict_table t h ∙ (λ i. (has t h && mine i) || none_foreign t h C mine i) ∙ plain (has t h));
    rows = λ p mine. sym (at-restrict_table t p ∙ ap (λ b. cond (b || is_among p C) (at t p) None) mine);
    covered = λ p m. sym (at-restrict_table t p ∙ ap (λ b. cond (hosted (prefix p.handle) || b) (at t p) None) m ∙ always (hosted (prefix p.handle)) (at t p));
  }
    where
      always : (b : Bool) (x : Option Value) → cond (b || true) x None ≡ x
      always true x = refl
      always false x = refl

  -- ---- closed covers

  each_stamped : (Q : Value → Type 0) (moment : ℕ) → ((v : Value) → Covers C (refs_of v) → Q v) → (vs : List Value) → EachCovered C vs → AllByRecursion Q (map (with_timestamp moment) vs)
  each_stamped Q moment f [] c = tt
  each_stamped Q moment f (v ∷ vs) c = (f (with_timestamp moment v) c.0, each_stamped Q moment f vs c.1)

  -- what is listed by what stands at a place is in C
  abbrev ListsCovered : Value → Type 0
  ListsCovered v = Covers C (listed_places v)

  covers_listed : (v : Value) → Covers C (refs_of v) → ListsCovered v
  covers_listed v c p m = c p (among_back (map (λ g. g.1) (value_grants v)) (listed_places v) p m)

  onward_by : (x : Option Value) → ((v : Value) → x ≡ Some v → ListsCovered v) → Covers C (listed_in x)
  onward_by None f p m = absurd (true≢false (sym m))
  onward_by (Some v) f p m = f v refl p m

  pub closed_after : (t : Table) (moment : ℕ) (c : Option Change) → EachCovered C (values_written c) → IsClosed hosted C t → IsClosed hosted C (apply_if t moment c)
  closed_after t moment None held closed = closed
  closed_after t moment (Some c) held closed = record {
    rows = λ p v mine e. from_change (λ y. Covers C (refs_of y)) t moment c p (each_stamped (λ y. Covers C (refs_of y)) moment (λ y r. r) (changed_values c) held) (λ y was. closed.rows p y mine was) v e;
    onward = λ r p m l. onward_by (at (apply t moment c) r) (from_change ListsCovered t moment c r (each_stamped ListsCovered moment covers_listed (changed_values c) held) (λ y was q k. closed.onward r q m (subst (λ o. IsTrue (is_among q (listed_in o))) (sym was) k))) p l;
  }

  pub closed_agrees : (t u : Table) → Agrees hosted C t u → IsClosed hosted C t → IsClosed hosted C u
  closed_agrees t u agree closed = record {
    rows = λ p v mine e. closed.rows p v mine (agree.rows p mine ∙ e);
    onward = λ r p m l. closed.onward r p m (subst (λ x. IsTrue (is_among p (listed_in x))) (sym (agree.covered r m)) l);
  }
