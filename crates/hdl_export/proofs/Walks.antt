-- What loops over lists add with each element.
use Rattle.std.proofs.Common.{◌≡◌, ℕ, ◌<◌, ◌+◌, Bool, true, false, List, [], ◌∷◌, ◌++◌, length, get_or, map, take, drop, Contains, refl, sym, ap, subst, ◌∙◌, arith, inl, inr, Bor, true≢false}
use Rattle.std.specs.Prelude.{◌||◌}
use Rattle.std.specs.List.{list_any}
use Rattle.std.specs.Str.{bytes_eq}
use Rattle.std.proofs.lemmas.List.{map-append, take-append-drop, take_more}
use Rattle.std.proofs.lemmas.List.Elements.{Contains-append_left, Contains-append_right, Contains-append_cases, Contains-push_cases}
use Rattle.std.proofs.lemmas.Slice.Eq.{bytes_eq-Decides}
use Rattle.hdl_export.specs.Prefixes.{AreAmong}

-- texts where they lie
abbrev pub texts_of : List (Bor (List ℕ)) → List (List ℕ)
texts_of = map (λ t. t.now)

pub texts-push : (ts : List (Bor (List ℕ))) (t : Bor (List ℕ)) → texts_of (ts ++ t ∷ []) ≡ texts_of ts ++ t.now ∷ []
texts-push ts t = map-append {A = Bor (List ℕ)} {B = List ℕ} (λ x. x.now) ts (t ∷ [])

-- a test of mapped elements
pub any_mapped : {A B : Type 0} (p : B → Bool) (f : A → B) (xs : List A) → list_any p (map f xs) ≡ list_any (λ x. p (f x)) xs
any_mapped p f [] = refl
any_mapped p f (x ∷ xs) = by (p (f x)) (any_mapped p f xs)
  where
    by : (b : Bool) → list_any p (map f xs) ≡ list_any (λ y. p (f y)) xs → (b || list_any p (map f xs)) ≡ (b || list_any (λ y. p (f y)) xs)
    by true e = refl
    by false e = e

-- ---- one among texts

pub any_there : (octets : List ℕ) (texts : List (List ℕ)) → list_any (λ t. bytes_eq octets t) texts ≡ true → Contains texts octets
any_there octets [] e = absurd (true≢false (sym e))
any_there octets (text ∷ texts) e = by (bytes_eq octets text) refl (any_there octets texts)
  where
    by : (b : Bool) → bytes_eq octets text ≡ b → (list_any (λ t. bytes_eq octets t) texts ≡ true → Contains texts octets) → Contains (text ∷ texts) octets
    by true t later = (0, omega arith, sym ((bytes_eq-Decides octets text).0 t))
    by false t later = Contains-append_right (text ∷ []) texts octets (later (rw t at e))

-- what is inserted is there, and what was there stays
pub insert_has : (ts : List (Bor (List ℕ))) (i : ℕ) (t : Bor (List ℕ)) → Contains (texts_of (take i ts ++ t ∷ drop i ts)) t.now
insert_has ts i t =
    rw (map-append {A = Bor (List ℕ)} {B = List ℕ} (λ x. x.now) (take i ts) (t ∷ drop i ts))
    (Contains-append_right (texts_of (take i ts)) (t.now ∷ texts_of (drop i ts)) t.now (0, omega arith, refl))

pub insert_keeps : (ts : List (Bor (List ℕ))) (i : ℕ) (t : Bor (List ℕ)) (x : List ℕ) → Contains (texts_of ts) x → Contains (texts_of (take i ts ++ t ∷ drop i ts)) x
insert_keeps ts i t x there =
    let cut : texts_of ts ≡ texts_of (take i ts) ++ texts_of (drop i ts) = ap texts_of (sym (take-append-drop i ts)) ∙ map-append {A = Bor (List ℕ)} {B = List ℕ} (λ y. y.now) (take i ts) (drop i ts) in
    rw (map-append {A = Bor (List ℕ)} {B = List ℕ} (λ y. y.now) (take i ts) (t ∷ drop i ts))
    (elim (Contains-append_cases (texts_of (take i ts)) (texts_of (drop i ts)) x (subst (λ (ys : List (List ℕ)). Contains ys x) cut there)) [
      | inl before ↦ Contains-append_left (texts_of (take i ts)) (t.now ∷ texts_of (drop i ts)) x before
      | inr behind ↦ Contains-append_right (texts_of (take i ts)) (t.now ∷ texts_of (drop i ts)) x (Contains-append_right (t.now ∷ []) (texts_of (drop i ts)) x behind)
    ])

-- the texts so far and one more
pub among_more : (ps : List (Bor (List ℕ))) (k : ℕ) (d : Bor (List ℕ)) (start : List ℕ) (old new : List (List ℕ)) → k < length ps
    → AreAmong (start ∷ texts_of (take k ps)) old → AreAmong old new → Contains new (get_or ps k d).now → AreAmong (start ∷ texts_of (take (k + 1) ps)) new
among_more ps k d start old new lt before kept here x there =
    let shape : start ∷ texts_of (take (k + 1) ps) ≡ (start ∷ texts_of (take k ps)) ++ (get_or ps k d).now ∷ [] =
    ap (λ (ts : List (Bor (List ℕ))). start ∷ texts_of ts) (take_more ps k d lt) ∙ ap (λ (ts : List (List ℕ)). start ∷ ts) (texts-push (take k ps) (get_or ps k d)) in
    elim (Contains-push_cases (start ∷ texts_of (take k ps)) (get_or ps k d).now x (subst (λ (ys : List (List ℕ)). Contains ys x) shape there)) [
      | inl first ↦ kept x (before x first)
      | inr same ↦ subst (Contains new) same here
    ]
