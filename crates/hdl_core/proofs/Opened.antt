-- The world with which a service opens.
use Rattle.std.proofs.Common.{◌≡◌, ◌≢◌, ℕ, zero, suc, ◌+◌, ◌-◌, ◌<◌, ◌≤◌, Bool, true, false, cond, List, [], ◌∷◌, ◌++◌, length, map, take, get_or, slice_get, nat_lt, Option, Some, None, option_map, unwrap_or, refl, sym, ap, ◌∙◌, subst, arith, inl, inr, length-append, Result, Ok, Err}
use Rattle.std.proofs.lemmas.Bool.{cases_lt}
use Rattle.std.proofs.lemmas.Bool.Decides.{Decides-ltb}
use Rattle.std.specs.Prelude.{OnOk}
use Rattle.std.proofs.lemmas.List.{map-append, length-map, length-take, take_more, get_or-map, get_or-take, get_or_default}
use Rattle.std.proofs.lemmas.List.Sums.{sum_by-cons}
use Rattle.std.proofs.lemmas.Option.{slice_get_past, slice_get-map}
use Rattle.std.specs.FinMap as map
use Rattle.std.specs.FinMap.{find}
use Rattle.std.specs.FinSet as set
use Rattle.hdl_name.specs.Name.{canonical}
use Rattle.hdl_value.specs.declared.value.Value.{Value}
use Rattle.hdl_value.specs.Place.{Place, handle_cmp, place_cmp, same_place}
use Rattle.hdl_value.proofs.Places.{handle_total, handle_antisymmetric, place_total, place_antisymmetric, places_equal, insert_member}
use Rattle.hdl_rows.specs.Table.{Table, has, at, with_new_handle, with_values}
use Rattle.hdl_tenants.specs.Register as register
use Rattle.hdl_tenants.specs.Register.{Register, Publisher, Row, place, lane_count, owner_among, AreDistinct, IsRegister}
use Rattle.hdl_laws.specs.Lanes.{fresh}
use Rattle.hdl_laws.specs.Worlds.{owner, lane_of, read_only}
use Rattle.hdl_core.specs.declared.lane.Lane.{Lane}
use Rattle.hdl_core.specs.Held.{Held, held_lane}
use Rattle.hdl_core.specs.Worlds.{world_of}
use Rattle.hdl_slots.specs.Lanes as slots
use Rattle.hdl_core.specs.Opening.{entry_of, opening_table, with_row, first_lanes, closed_lanes, IsOpening, IsResumed}
use Rattle.hdl_core.proofs.Places.{owner_of, lane_of_world, layout_of}

-- ---- one row

pub row_created : (t : Table) (name : List ℕ) (v : Value) → with_new_handle t (canonical name) (v ∷ []) ≡ with_row t (name, v)
row_created t name v = refl

pub row_added : (t : Table) (name : List ℕ) (v : Value) → has t (canonical name) ≡ true → with_values t (canonical name) (v ∷ []) ≡ with_row t (name, v)
row_added t name v there = λ i. record { handles = sym (insert_member t.handles (canonical name) there) i; values = map.insert t.values (place (name, v)) v }

-- ---- all rows

find_none : (rows : List Row) (p : Place) → ((k : ℕ) (d : Row) → k < length rows → place (get_or rows k d) ≢ p) → find place_cmp p (map entry_of rows) ≡ None
find_none [] p h = refl
find_none (row ∷ rows) p h =
    by (same_place p (place row)) refl (find_none rows p (λ k d lt. h (suc k) d (omega (arith, lt))))
  where
    by : (b : Bool) → same_place p (place row) ≡ b → find place_cmp p (map entry_of rows) ≡ None → cond b (Some row.1) (find place_cmp p (map entry_of rows)) ≡ None
    by true e rest = absurd (h 0 row (omega arith) (sym (places_equal p (place row) e)))
    by false e rest = rest

pub none_yet : (rows : List Row) (p : Place) → ((k : ℕ) (d : Row) → k < length rows → place (get_or rows k d) ≢ p) → at (opening_table rows) p ≡ None
none_yet rows p h = map.get-from_entries place_total (map entry_of rows) p ∙ find_none rows p h

pub one_more : (rows : List Row) (row : Row) → find place_cmp (place row) (map entry_of rows) ≡ None → opening_table (rows ++ row ∷ []) ≡ with_row (opening_table rows) row
one_more rows row none =
    let handles : set.from_list {R = handle_cmp} (map (λ (x : Row). canonical x.0) (rows ++ row ∷ [])) ≡ set.insert (set.from_list (map (λ (x : Row). canonical x.0) rows)) (canonical row.0) =
    ap set.from_list (map-append (λ (x : Row). canonical x.0) rows (row ∷ [])) ∙ set.from_list_push handle_total handle_antisymmetric (map (λ (x : Row). canonical x.0) rows) (canonical row.0) in
    let values : map.from_entries {R = place_cmp} (map entry_of (rows ++ row ∷ [])) ≡ map.insert (map.from_entries (map entry_of rows)) (place row) row.1 =
    ap map.from_entries (map-append entry_of rows (row ∷ [])) ∙ map.from_entries_push place_total place_antisymmetric (map entry_of rows) (place row) row.1 none in
    λ i. record { handles = handles i; values = values i }

pub on_ok : {X E : Type 0} (r : Result X E) (P Q : Type 0) → (P → Q) → OnOk r P → OnOk r Q
on_ok (Ok x) P Q f h = f h
on_ok (Err e) P Q f h = h

-- the rows before a row have other places
pub others_before : (rows : List Row) (i : ℕ) (d : Row) → i < length rows → AreDistinct (map place rows) → at (opening_table (take i rows)) (place (get_or rows i d)) ≡ None
others_before rows i d lt distinct = none_yet (take i rows) (place (get_or rows i d)) (λ k e short same. before k e (omega (arith, short, length-take i rows)) same)
  where
    before : (k : ℕ) (e : Row) → k < i → place (get_or (take i rows) k e) ≢ place (get_or rows i d)
    before k e less same =
        let len = length-map rows place in
        distinct k i (place d) less (omega (arith, lt, len))
        (get_or-map place rows k d (place d) (omega (arith, less, lt)) ∙ ap place (get_or_default rows k d e (omega (arith, less, lt))) ∙ sym (ap place (get_or-take i rows k e less)) ∙ same ∙ sym (get_or-map place rows i d (place d) lt))

pub find_before : (rows : List Row) (i : ℕ) (d : Row) → i < length rows → AreDistinct (map place rows) → find place_cmp (place (get_or rows i d)) (map entry_of (take i rows)) ≡ None
find_before rows i d lt distinct = sym (map.get-from_entries place_total (map entry_of (take i rows)) (place (get_or rows i d))) ∙ others_before rows i d lt distinct

pub rows_more : (rows : List Row) (i : ℕ) (d : Row) → i < length rows → AreDistinct (map place rows) → with_row (opening_table (take i rows)) (get_or rows i d) ≡ opening_table (take (i + 1) rows)
rows_more rows i d lt distinct = sym (ap opening_table (take_more rows i d lt) ∙ one_more (take i rows) (get_or rows i d) (find_before rows i d lt distinct))

-- ---- the lanes

get_before : {A : Type 0} (xs ys : List A) (l : ℕ) → l < length xs → slice_get (xs ++ ys) l ≡ slice_get xs l
get_before [] ys l h = absurd (omega (arith, h))
get_before (x ∷ xs) ys zero h = refl
get_before (x ∷ xs) ys (suc l) h = get_before xs ys l (omega (arith, h))

get_at_end : {A : Type 0} (xs : List A) (x : A) (l : ℕ) → l ≡ length xs → slice_get (xs ++ x ∷ []) l ≡ Some x
get_at_end [] x zero e = refl
get_at_end [] x (suc l) e = absurd (omega (arith, e))
get_at_end (y ∷ xs) x zero e = absurd (omega (arith, e))
get_at_end (y ∷ xs) x (suc l) e = get_at_end xs x l (omega (arith, e))

abbrev closed : Register → ℕ → Lane
closed r l = record { publisher = unwrap_or (register.owner r l) 0; is_open = false }

length-first_lanes : (r : Register) (n : ℕ) → length (first_lanes r n) ≡ n
length-first_lanes r zero = refl
length-first_lanes r (suc n) = length-append (first_lanes r n) (closed r n ∷ []) ∙ ap (λ k. k + 1) (length-first_lanes r n) ∙ omega arith

lane_within : (r : Register) (n l : ℕ) → l < n → slice_get (first_lanes r n) l ≡ Some (closed r l)
lane_within r zero l h = absurd (omega (arith, h))
lane_within r (suc n) l h = elim (cases_lt l n) [
  | inl before ↦ let len = length-first_lanes r n in get_before (first_lanes r n) (closed r n ∷ []) l (omega (arith, before, len)) ∙ lane_within r n l before
  | inr at ↦
      let len = length-first_lanes r n in
      let same : n ≡ l = omega (arith, h, at) in
      get_at_end (first_lanes r n) (closed r n) l (omega (arith, len, same)) ∙ ap (λ k. Some (closed r k)) same
]

lane_past : (r : Register) (n l : ℕ) → n ≤ l → slice_get (first_lanes r n) l ≡ None
lane_past r n l h = let len = length-first_lanes r n in slice_get_past (first_lanes r n) l (omega (arith, len, h))

count_more : (p : Publisher) (ps : List Publisher) → lane_count (p ∷ ps) ≡ p.lanes + lane_count ps
count_more p ps = sum_by-cons (λ (q : Publisher). q.lanes) p ps

owner_past : (ps : List Publisher) (l : ℕ) → lane_count ps ≤ l → owner_among ps l ≡ None
owner_past [] l h = refl
owner_past (p ∷ ps) l h =
    let more = count_more p ps in
    let above : p.lanes ≤ l = omega (arith, h, more) in
    let fails : nat_lt l p.lanes ≡ false = grind (arith, above) in
    rw fails (ap (option_map (λ (k : ℕ). k + 1)) (owner_past ps (l - p.lanes) (omega (arith, h, more))))

owner_within : (ps : List Publisher) (l : ℕ) → l < lane_count ps → (u : ℕ) × (owner_among ps l ≡ Some u)
owner_within [] l h = absurd (omega (arith, h))
owner_within (p ∷ ps) l h = elim (cases_lt l p.lanes) [
  | inl here ↦ let passes : nat_lt l p.lanes ≡ true = (Decides-ltb l p.lanes).1 here in (0, rw passes refl)
  | inr later ↦
      let more = count_more p ps in
      let fails : nat_lt l p.lanes ≡ false = grind (arith, later) in
      let rest = owner_within ps (l - p.lanes) (omega (arith, h, later, more)) in
      (rest.0 + 1, rw fails (ap (option_map (λ (k : ℕ). k + 1)) rest.1))
]

within_map : (lanes : List Lane) (l : ℕ) → slice_get (closed_lanes lanes) l ≡ option_map (λ (x : Lane). held_lane x [] slots.fresh) (slice_get lanes l)
within_map lanes l = slice_get-map (λ (x : Lane). held_lane x [] slots.fresh) lanes l

module _ (r : Register) (t : Table) where
  abbrev count : ℕ
  count = lane_count r.publishers

  abbrev lanes : List Held
  lanes = closed_lanes (first_lanes r count)

  there : (l : ℕ) → l < count → slice_get lanes l ≡ Some (held_lane (closed r l) [] slots.fresh)
  there l within = within_map (first_lanes r count) l ∙ ap (option_map (λ (x : Lane). held_lane x [] slots.fresh)) (lane_within r count l within)

  none : (l : ℕ) → count ≤ l → slice_get lanes l ≡ None
  none l past = within_map (first_lanes r count) l ∙ ap (option_map (λ (x : Lane). held_lane x [] slots.fresh)) (lane_past r count l past)

  owners : (l : ℕ) → owner (world_of r true lanes t).site l ≡ register.owner r l
  owners l = owner_of r true lanes t l ∙ elim (cases_lt l count) [
    | inl within ↦
        let u = owner_within r.publishers l within in
        ap (option_map (λ (x : Held). x.publisher)) (there l within) ∙ ap (λ (o : Option ℕ). Some (unwrap_or o 0)) u.1 ∙ sym u.1
    | inr past ↦ ap (option_map (λ (x : Held). x.publisher)) (none l past) ∙ sym (owner_past r.publishers l past)
  ]

  all_closed : (l : ℕ) → lane_of (world_of r true lanes t) l ≡ fresh false
  all_closed l = lane_of_world r true lanes t l ∙ elim (cases_lt l count) [
    | inl within ↦ ap (λ (o : Option Held). unwrap_or (option_map (λ (x : Held). x.state) o) (fresh false)) (there l within)
    | inr past ↦ ap (λ (o : Option Held). unwrap_or (option_map (λ (x : Held). x.state) o) (fresh false)) (none l past)
  ]

  hosted : (world_of r true lanes t).site.hostings ≡ r.hostings
  unfolding world_of
  hosted = refl

  site_infos : (world_of r true lanes t).site.sites ≡ r.sites
  unfolding world_of
  site_infos = refl

  taken : (world_of r true lanes t).site.takes_changes ≡ true
  unfolding world_of
  taken = refl

  held_table : (world_of r true lanes t).table ≡ t
  unfolding world_of
  held_table = refl

  pub opens : (all : List Held) → all ≡ closed_lanes (first_lanes r (lane_count r.publishers)) → t ≡ opening_table r.opening → IsOpening r (world_of r true all t)
  opens all same rows = subst (λ (ls : List Held). IsOpening r (world_of r true ls t)) (sym same) (record {
    owners = owners;
    hostings = hosted;
    layouts = λ publisher. sym (layout_of r true lanes t publisher);
    sites = site_infos;
    takes_changes = taken;
    closed = all_closed;
    table = held_table ∙ rows;
  })

  pub resumes : (all : List Held) → all ≡ closed_lanes (first_lanes r (lane_count r.publishers)) → IsResumed r t (world_of r true all t)
  resumes all same = subst (λ (ls : List Held). IsResumed r t (world_of r true ls t)) (sym same) (record {
    owners = owners;
    hostings = hosted;
    layouts = λ publisher. sym (layout_of r true lanes t publisher);
    sites = site_infos;
    takes_changes = taken;
    closed = all_closed;
    table = held_table;
  })

-- the table of a world
pub table_of_world : (r : Register) (b : Bool) (all : List Held) (t : Table) → (world_of r b all t).table ≡ t
unfolding world_of
table_of_world r b all t = refl

-- the world that takes no changes
pub world_read_only : (r : Register) (b : Bool) (all : List Held) (t : Table) → world_of r false all t ≡ read_only (world_of r b all t)
unfolding world_of
world_read_only r b all t = refl

-- a register has few lanes
pub few_lanes : (r : Register) (lanes : List Lane) → IsRegister r → lanes ≡ first_lanes r (lane_count r.publishers) → length lanes ≤ 64
few_lanes r lanes kept same = let len = ap length same ∙ length-first_lanes r (lane_count r.publishers) in omega (arith, len, kept.lanes)
