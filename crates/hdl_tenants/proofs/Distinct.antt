-- Lists without an element twice, and whether a prefix is hosted.
use Rattle.std.proofs.Common.{◌≡◌, ◌≢◌, ◌++◌, ◌∷◌, [], List, ℕ, ◌+◌, ◌<◌, ◌==◌, ◌&&◌, ◌||◌, Bool, true, false, length, get_or, map, Contains, arith, sym, ap, ◌∙◌, true≢false, refl, add-one, All, IsTrue, eqb-true, ◌⊎◌, inl, inr}
use Rattle.std.specs.Str.{bytes_eq}
use Rattle.std.proofs.lemmas.List.{get_or_default, get_or-map, length-map}
use Rattle.std.proofs.lemmas.List.Folds.{list_any_at}
use Rattle.std.proofs.lemmas.Bool.Decides.{Decides-eqb}
use Rattle.std.proofs.lemmas.List.Quantifiers.{all_pairs_push}
use Rattle.std.proofs.lemmas.Slice.Eq.{bytes_eq-Decides}
use Rattle.std.proofs.lemmas.List.Elements.{Contains-append_cases, Contains-push_cases}
use Rattle.hdl_auth.specs.declared.algorithm.Algorithm.TheVariants.{Sha1}
use Rattle.hdl_tenants.specs.Register.{Publisher, Hosting, IsHosting, AreDistinct, prefixes_of, hosts_among, algorithm_among, hosting_pair}

pub distinct_push : {A : Type 0} (xs : List A) (y : A) → AreDistinct xs → (Contains xs y → ⊥) → AreDistinct (xs ++ y ∷ [])
distinct_push xs y distinct new = all_pairs_push (λ a b. a ≢ b) xs y distinct (λ k d inside same. new (k, inside, get_or_default xs k y d inside ∙ same))

pub distinct_head : {A : Type 0} (x : A) (xs : List A) → AreDistinct (x ∷ xs) → Contains xs x → ⊥
distinct_head x xs distinct there = distinct 0 (there.0 + 1) x (omega arith) (omega (arith, there.1)) (rw add-one (sym there.2))

pub distinct_tail : {A : Type 0} (x : A) (xs : List A) → AreDistinct (x ∷ xs) → AreDistinct xs
distinct_tail x xs distinct i j d below inside same = distinct (i + 1) (j + 1) d (omega arith) (omega arith) (rw (add-one, add-one) same)

pub Contains-later : {A : Type 0} (x : A) (xs : List A) (y : A) → Contains xs y → Contains (x ∷ xs) y
Contains-later x xs y there = (there.0 + 1, omega (arith, there.1), rw add-one there.2)

and_true : (b : Bool) → ((b && true) || false) ≡ b
and_true true = refl
and_true false = refl

and_false : (b c : Bool) → ((b && false) || c) ≡ c
and_false true c = refl
and_false false c = refl

module _ (publisher : ℕ) (prefix : List ℕ) where
  -- a prefix that isn't there is hosted for nobody
  pub hosts-absent : (hs : List Hosting) → (Contains (prefixes_of hs) prefix → ⊥) → hosts_among hs publisher prefix ≡ false
  hosts-absent [] absent = refl
  hosts-absent (h ∷ hs) absent = by (bytes_eq prefix h.prefix) refl (hosts-absent hs (λ there. absent (Contains-later h.prefix (prefixes_of hs) prefix there)))
    where
      by : (b : Bool) → bytes_eq prefix h.prefix ≡ b → hosts_among hs publisher prefix ≡ false → hosts_among (h ∷ hs) publisher prefix ≡ false
      by true t rest = absurd (absent (0, omega arith, sym ((bytes_eq-Decides prefix h.prefix).0 t)))
      by false t rest = rw (t, rest) (and_false (h.publisher == publisher) false)

-- ---- hosting

test_parts : (a b : Bool) → (a && b) ≡ true → (a ≡ true) × (b ≡ true)
test_parts true true t = (refl, refl)
test_parts true false t = absurd (true≢false (sym t))
test_parts false b t = absurd (true≢false (sym t))

or_parts : (a b : Bool) → (a || b) ≡ true → (a ≡ true) ⊎ (b ≡ true)
or_parts true b t = inl refl
or_parts false b t = inr t

-- a prefix is hosted for a publisher where a hosting says so
pub hosted_given : (hs : List Hosting) (u : ℕ) (prefix : List ℕ) → hosts_among hs u prefix ≡ true → Contains (map hosting_pair hs) (prefix, u)
hosted_given [] u prefix t = absurd (true≢false (sym t))
hosted_given (h ∷ hs) u prefix t = elim (or_parts ((h.publisher == u) && bytes_eq prefix h.prefix) (hosts_among hs u prefix) t) [
  | inl here ↦
      let parts = test_parts (h.publisher == u) (bytes_eq prefix h.prefix) here in
      let prefixes : h.prefix ≡ prefix = sym ((bytes_eq-Decides prefix h.prefix).0 parts.1) in
      let publishers : h.publisher ≡ u = eqb-true h.publisher u parts.0 in
      (0, omega arith, λ i. (prefixes i, publishers i))
  | inr later ↦ Contains-later (hosting_pair h) (map hosting_pair hs) _ (hosted_given hs u prefix later)
]

pub given_hosts : (hs : List Hosting) (u : ℕ) (prefix : List ℕ) → Contains (map hosting_pair hs) (prefix, u) → hosts_among hs u prefix ≡ true
given_hosts hs u prefix there =
    let none : Hosting = record { prefix = prefix; publisher = u; algorithm = Sha1 } in
    let inside : there.0 < length hs = omega (arith, there.1, length-map hs hosting_pair) in
    let h : Hosting = get_or hs there.0 none in
    let same : hosting_pair h ≡ (prefix, u) = sym (get_or-map hosting_pair hs there.0 none (prefix, u) inside) ∙ there.2 in
    let publishers : h.publisher ≡ u = ap (λ (x : List ℕ × ℕ). x.1) same in
    let prefixes : h.prefix ≡ prefix = ap (λ (x : List ℕ × ℕ). x.0) same in
    let test : ((h.publisher == u) && bytes_eq prefix h.prefix) ≡ true = rw ((Decides-eqb h.publisher u).1 publishers, (bytes_eq-Decides prefix h.prefix).1 (sym prefixes)) refl in
    list_any_at (λ x. (x.publisher == u) && bytes_eq prefix x.prefix) hs there.0 none inside test

-- the first hosting of a prefix for a publisher is the only one
pub hashed_given : (hs : List Hosting) (h : Hosting) → AreDistinct (map hosting_pair hs) → Contains hs h → algorithm_among hs h.publisher h.prefix ≡ h.algorithm
hashed_given [] h distinct there = absurd (omega (arith, there.1))
hashed_given (g ∷ hs) h distinct there = by (g.publisher == h.publisher) refl (bytes_eq h.prefix g.prefix) refl (hashed_given hs h (distinct_tail (hosting_pair g) (map hosting_pair hs) distinct))
  where
    Rest : Type 0
    Rest = Contains hs h → algorithm_among hs h.publisher h.prefix ≡ h.algorithm

    later : (hosting_pair g ≡ hosting_pair h → ⊥) → Contains hs h
    later other = elim (Contains-append_cases (g ∷ []) hs h there) [
      | inl first ↦ elim (Contains-push_cases [] g h first) [
        | inl none ↦ absurd (omega (arith, none.1))
        | inr same ↦ absurd (other (ap hosting_pair same))
      ]
      | inr inside ↦ inside
    ]

    only : hosting_pair g ≡ hosting_pair h → g.algorithm ≡ h.algorithm
    only same = elim (Contains-append_cases (g ∷ []) hs h there) [
      | inl first ↦ elim (Contains-push_cases [] g h first) [
        | inl none ↦ absurd (omega (arith, none.1))
        | inr one ↦ ap (λ (x : Hosting). x.algorithm) one
      ]
      | inr inside ↦ absurd (distinct_head (hosting_pair g) (map hosting_pair hs) distinct (inside.0, omega (arith, inside.1, length-map hs hosting_pair), get_or-map hosting_pair hs inside.0 h (hosting_pair g) inside.1 ∙ ap hosting_pair inside.2 ∙ sym same))
    ]

    by : (b : Bool) → (g.publisher == h.publisher) ≡ b → (c : Bool) → bytes_eq h.prefix g.prefix ≡ c → Rest → algorithm_among (g ∷ hs) h.publisher h.prefix ≡ h.algorithm
    by true e true f rest = rw (e, f) (only (λ i. (sym ((bytes_eq-Decides h.prefix g.prefix).0 f) i, eqb-true g.publisher h.publisher e i)))
    by true e false f rest = rw (e, f) (rest (later (λ same. true≢false (sym ((bytes_eq-Decides h.prefix g.prefix).1 (sym (ap (λ (x : List ℕ × ℕ). x.0) same))) ∙ f))))
    by false e c f rest = rw e (rest (later (λ same. true≢false (sym ((Decides-eqb g.publisher h.publisher).1 (ap (λ (x : List ℕ × ℕ). x.1) same)) ∙ e))))

-- a prefix that is there is hosted for somebody
pub host_of : (publishers : List Publisher) (hs : List Hosting) (prefix : List ℕ) → All (IsHosting publishers) hs → Contains (prefixes_of hs) prefix → (u : ℕ) × (u < length publishers) × IsTrue (hosts_among hs u prefix)
host_of publishers hs prefix sound there =
    let none : Hosting = record { prefix = prefix; publisher = 0; algorithm = Sha1 } in
    let inside : there.0 < length hs = omega (arith, there.1, length-map hs (λ (x : Hosting). x.prefix)) in
    let h : Hosting = get_or hs there.0 none in
    let same : h.prefix ≡ prefix = sym (get_or-map (λ (x : Hosting). x.prefix) hs there.0 none prefix inside) ∙ there.2 in
    let test : ((h.publisher == h.publisher) && bytes_eq prefix h.prefix) ≡ true = rw ((Decides-eqb h.publisher h.publisher).1 refl, (bytes_eq-Decides prefix h.prefix).1 (sym same)) refl in
    (h.publisher, (sound there.0 none inside).publisher, list_any_at (λ x. (x.publisher == h.publisher) && bytes_eq prefix x.prefix) hs there.0 none inside test)
