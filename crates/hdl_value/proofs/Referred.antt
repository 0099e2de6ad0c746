-- The lists of what a value refers to have just the places that it refers to.
use Rattle.std.proofs.Common.{◌≡◌, ℕ, zero, suc, Bool, true, false, cond, eqb, List, [], ◌∷◌, map, filter, Option, Some, None, refl, sym, ap, subst, ◌∙◌, arith, inl, inr}
use Rattle.std.specs.Prelude.{◌⊎◌, Contains}
use Rattle.std.specs.Str.{bytes_eq}
use Rattle.std.proofs.lemmas.Bool.{ne_eqb, eqb-false, not-true, not_from_false}
use Rattle.std.proofs.lemmas.Slice.Eq.{bytes_eq-Decides}
use Rattle.std.proofs.lemmas.List.Elements.{Contains-append_left, Contains-append_right, Contains-append_cases}
use Rattle.hdl_value.specs.declared.references.RawRef.{RawRef}
use Rattle.hdl_value.specs.declared.value.Value.{Value}
use Rattle.hdl_value.specs.Spelling.{Fits}
use Rattle.hdl_value.specs.Place.{Place}
use Rattle.hdl_value.specs.Data.{admin_kind, list_kind, IsAdminData, IsListData, Names, Administers, Lists, RefersTo}
use Rattle.hdl_value.specs.Refs.{admin_in, list_in, admin_read, list_read, place, refers, granted_by, listed_by, value_grants, listed_places, refs_of}
use Rattle.hdl_value.proofs.DataRead.{admin_in_is, admin_in_again, list_in_is, list_in_again}

-- ---- elements

pub none_in : {A : Type 0} (x : A) → Contains [] x → ⊥
none_in x h = let lt = h.1 in omega (arith, lt)

pub here : {A : Type 0} (x : A) (xs : List A) → Contains (x ∷ xs) x
here x xs = (0, omega arith, refl)

pub there : {A : Type 0} (y x : A) (xs : List A) → Contains xs x → Contains (y ∷ xs) x
there y x xs h = let lt = h.1 in (suc h.0, omega (arith, lt), h.2)

pub cases_in : {A : Type 0} (y x : A) (xs : List A) → Contains (y ∷ xs) x → (y ≡ x) ⊎ Contains xs x
cases_in y x xs (zero, lt, e) = inl e
cases_in y x xs (suc k, lt, e) = inr (k, omega (arith, lt), e)

in_rest : {A : Type 0} (b : Bool) (y x : A) (xs : List A) → Contains xs x → Contains (cond b (y ∷ xs) xs) x
in_rest true y x xs h = there y x xs h
in_rest false y x xs h = h

in_first : {A : Type 0} (b : Bool) (x : A) (xs : List A) → b ≡ true → Contains (cond b (x ∷ xs) xs) x
in_first true x xs e = here x xs
in_first false x xs e = absurd cc

pub in_filter : {A : Type 0} (q : A → Bool) (x : A) (xs : List A) → Contains xs x → q x ≡ true → Contains (filter q xs) x
in_filter q x [] h e = absurd (none_in x h)
in_filter {A} q x (y ∷ xs) h e = elim (cases_in y x xs h) [
  | inl is ↦ subst (λ (z : A). Contains (cond (q y) (y ∷ filter q xs) (filter q xs)) z) is (in_first (q y) y (filter q xs) (ap q is ∙ e))
  | inr more ↦ in_rest (q y) y x (filter q xs) (in_filter q x xs more e)
]

from_first : {A : Type 0} (b : Bool) (y x : A) (xs : List A) → Contains (cond b (y ∷ xs) xs) x → ((b ≡ true) × (y ≡ x)) ⊎ Contains xs x
from_first true y x xs h = elim (cases_in y x xs h) [ inl is ↦ inl (refl, is) | inr more ↦ inr more ]
from_first false y x xs h = inr h

pub from_filter : {A : Type 0} (q : A → Bool) (x : A) (xs : List A) → Contains (filter q xs) x → Contains xs x × (q x ≡ true)
from_filter q x [] h = absurd (none_in x h)
from_filter {A} q x (y ∷ xs) h = elim (from_first (q y) y x (filter q xs) h) [
  | inl is ↦ (subst (λ (z : A). Contains (y ∷ xs) z) is.1 (here y xs), ap q (sym is.1) ∙ is.0)
  | inr more ↦ let t = from_filter q x xs more in (there y x xs t.0, t.1)
]

pub in_map : {A B : Type 0} (f : A → B) (x : A) (xs : List A) → Contains xs x → Contains (map f xs) (f x)
in_map f x [] h = absurd (none_in x h)
in_map {B = B} f x (y ∷ xs) h = elim (cases_in y x xs h) [
  | inl is ↦ subst (λ (z : B). Contains (f y ∷ map f xs) z) (ap f is) (here (f y) (map f xs))
  | inr more ↦ there (f y) (f x) (map f xs) (in_map f x xs more)
]

pub from_map : {A B : Type 0} (f : A → B) (z : B) (xs : List A) → Contains (map f xs) z → (x : A) × Contains xs x × (f x ≡ z)
from_map f z [] h = absurd (none_in z h)
from_map f z (y ∷ xs) h = elim (cases_in (f y) z (map f xs) h) [
  | inl is ↦ (y, here y xs, is)
  | inr more ↦ let t = from_map f z xs more in (t.0, there y t.0 xs t.1, t.2)
]

-- ---- what the type and the data say

when_some : {A : Type 0} (b : Bool) (o : Option A) (x : A) → cond b o None ≡ Some x → (b ≡ true) × (o ≡ Some x)
when_some true o x e = (refl, e)
when_some false o x e = absurd cc

admin_read_is : (v : Value) (mask : ℕ) (r : RawRef) → Fits v → admin_read v ≡ Some (mask, r) → (v.kind ≡ admin_kind) × IsAdminData v.bytes mask r
admin_read_is v mask r fits e =
    let t = when_some (bytes_eq v.kind admin_kind) (admin_in v.bytes) (mask, r) e in
    ((bytes_eq-Decides v.kind admin_kind).0 t.0, admin_in_is v.bytes mask r fits.bytes.each t.1)

admin_read_again : (v : Value) (mask : ℕ) (r : RawRef) → v.kind ≡ admin_kind → IsAdminData v.bytes mask r → admin_read v ≡ Some (mask, r)
admin_read_again v mask r kind data_is =
    ap (λ (b : Bool). cond b (admin_in v.bytes) None) ((bytes_eq-Decides v.kind admin_kind).1 kind) ∙ admin_in_again v.bytes mask r data_is

list_read_is : (v : Value) (rs : List RawRef) → Fits v → list_read v ≡ Some rs → (v.kind ≡ list_kind) × IsListData v.bytes rs
list_read_is v rs fits e =
    let t = when_some (bytes_eq v.kind list_kind) (list_in v.bytes) rs e in
    ((bytes_eq-Decides v.kind list_kind).0 t.0, list_in_is v.bytes rs fits.bytes.each t.1)

list_read_again : (v : Value) (rs : List RawRef) → v.kind ≡ list_kind → IsListData v.bytes rs → list_read v ≡ Some rs
list_read_again v rs kind data_is =
    ap (λ (b : Bool). cond b (list_in v.bytes) None) ((bytes_eq-Decides v.kind list_kind).1 kind) ∙ list_in_again v.bytes rs data_is

-- ---- places

refers_from : (p : Place) → refers p ≡ true → p.index ≡ 0 → ⊥
refers_from p e = eqb-false p.index 0 (not-true (eqb p.index 0) e)

refers_to : (p : Place) → (p.index ≡ 0 → ⊥) → refers p ≡ true
refers_to p some = not_from_false (eqb p.index 0) (ne_eqb p.index 0 some)

names_place : (r : RawRef) (p : Place) → Names r p → place r ≡ p
names_place r p n = λ i. record { handle = n.same_handle i; index = n.same_index i }

place_names : (r : RawRef) (p : Place) → place r ≡ p → refers p ≡ true → Names r p
place_names r p is e = record { same_handle = ap (λ (q : Place). q.handle) is; same_index = ap (λ (q : Place). q.index) is; index_some = refers_from p e }

-- ---- grants

granted_by_is : (v : Value) (mask : ℕ) (p : Place) → Fits v → (o : Option (ℕ × RawRef)) → admin_read v ≡ o → Contains (granted_by o) (mask, p) → Administers v mask p
granted_by_is v mask p fits None e h = absurd (none_in (mask, p) h)
granted_by_is v mask p fits (Some x) e h =
    let t = from_filter (λ (g : ℕ × Place). refers g.1) (mask, p) ((x.0, place x.1) ∷ []) h in
    let d = admin_read_is v x.0 x.1 fits e in
    elim (cases_in (x.0, place x.1) (mask, p) [] t.0) [
      | inl is ↦ (d.0, x.1, subst (λ (m : ℕ). IsAdminData v.bytes m x.1) (ap (λ (g : ℕ × Place). g.0) is) d.1, place_names x.1 p (ap (λ (g : ℕ × Place). g.1) is) t.1)
      | inr more ↦ absurd (none_in (mask, p) more)
    ]

pub granted_is : (v : Value) (mask : ℕ) (p : Place) → Fits v → Contains (value_grants v) (mask, p) → Administers v mask p
granted_is v mask p fits h = granted_by_is v mask p fits (admin_read v) refl h

pub granted_has : (v : Value) (mask : ℕ) (p : Place) → Administers v mask p → Contains (value_grants v) (mask, p)
granted_has v mask p a =
    let e = admin_read_again v mask a.1 a.0 a.2 in
    let found : ℕ × Place = (mask, place a.1) in
    let wanted : ℕ × Place = (mask, p) in
    let is : found ≡ wanted = ap (λ (q : Place). (mask, q)) (names_place a.1 p a.3) in
    let one : Contains (found ∷ []) wanted = subst (λ (g : ℕ × Place). Contains (found ∷ []) g) is (here found []) in
    subst (λ (o : Option (ℕ × RawRef)). Contains (granted_by o) wanted) (sym e) (in_filter (λ (g : ℕ × Place). refers g.1) wanted (found ∷ []) one (refers_to p a.3.index_some))

-- ---- lists

listed_by_is : (v : Value) (p : Place) → Fits v → (o : Option (List RawRef)) → list_read v ≡ o → Contains (listed_by o) p → Lists v p
listed_by_is v p fits None e h = absurd (none_in p h)
listed_by_is v p fits (Some rs) e h =
    let t = from_filter refers p (map place rs) h in
    let m = from_map place p rs t.0 in
    let d = list_read_is v rs fits e in
    (d.0, rs, d.1, (m.0, m.1, place_names m.0 p m.2 t.1))

pub listed_is : (v : Value) (p : Place) → Fits v → Contains (listed_places v) p → Lists v p
listed_is v p fits h = listed_by_is v p fits (list_read v) refl h

pub listed_has : (v : Value) (p : Place) → Lists v p → Contains (listed_places v) p
listed_has v p l =
    let e = list_read_again v l.1 l.0 l.2 in
    let one : Contains (map place l.1) p = subst (λ (q : Place). Contains (map place l.1) q) (names_place l.3.0 p l.3.2) (in_map place l.3.0 l.1 l.3.1) in
    subst (λ (o : Option (List RawRef)). Contains (listed_by o) p) (sym e) (in_filter refers p (map place l.1) one (refers_to p l.3.2.index_some))

-- ---- both

pub refs_are : (v : Value) (p : Place) → Fits v → Contains (refs_of v) p → RefersTo v p
refs_are v p fits h = elim (Contains-append_cases (map (λ (g : ℕ × Place). g.1) (value_grants v)) (listed_places v) p h) [
  | inl front ↦
      let m = from_map (λ (g : ℕ × Place). g.1) p (value_grants v) front in
      inl (m.0.0, granted_is v m.0.0 p fits (subst (λ (q : Place). Contains (value_grants v) (m.0.0, q)) m.2 m.1))
  | inr back ↦ inr (listed_is v p fits back)
]

pub refs_have : (v : Value) (p : Place) → RefersTo v p → Contains (refs_of v) p
refs_have v p (inl a) = Contains-append_left (map (λ (g : ℕ × Place). g.1) (value_grants v)) (listed_places v) p (in_map (λ (g : ℕ × Place). g.1) (a.0, p) (value_grants v) (granted_has v a.0 p a.1))
refs_have v p (inr l) = Contains-append_right (map (λ (g : ℕ × Place). g.1) (value_grants v)) (listed_places v) p (listed_has v p l)
