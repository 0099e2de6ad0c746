-- A map's look-up by octets, beside what its entries show.
use Rattle.std.proofs.Common.{◌≡◌, ◌++◌, ◌∷◌, [], List, ℕ, ◌+◌, Bool, true, false, cond, not, is_some, length, map, Contains, Option, None, Some, IfSome, IfNone, IsTrue, ◌↔◌, nat_lt, position, arith, sym, ap, ◌∙◌, inl, inr, true≢false, refl}
use Rattle.std.specs.Str.{bytes_eq}
use Rattle.std.specs.Map.{lookup, keys_of}
use Rattle.std.specs.List.{position_or_len}
use Rattle.std.proofs.lemmas.Slice.Eq.{bytes_eq-Decides}
use Rattle.std.proofs.lemmas.List.{map-append}
use Rattle.std.proofs.lemmas.List.Elements.{Contains-append_right, Contains-append_cases, Contains-push_cases}

module _ {K X V : Type 0} (test : K → Bool) (shown : K × X → V) (text : V → List ℕ) (q : List ℕ) (says : (e : K × X) → test e.0 ≡ bytes_eq q (text (shown e))) where
  texts : List (K × X) → List (List ℕ)
  texts es = map text (map shown es)

  -- what is found is among the texts
  pub found-Contains : (es : List (K × X)) → is_some (lookup test es) ≡ true → Contains (map text (map shown es)) q
  found-Contains [] h = absurd (true≢false (sym h))
  found-Contains (e ∷ es) h = by (test e.0) refl (found-Contains es)
    where
      by : (b : Bool) → test e.0 ≡ b → (is_some (lookup test es) ≡ true → Contains (map text (map shown es)) q) → Contains (map text (map shown (e ∷ es))) q
      by true t later = (0, omega arith, sym ((bytes_eq-Decides q (text (shown e))).0 (sym (says e) ∙ t)))
      by false t later = Contains-append_right (text (shown e) ∷ []) (map text (map shown es)) q (later (rw t at h))

  -- and what isn't found is not
  pub absent-Contains : (es : List (K × X)) → is_some (lookup test es) ≡ false → Contains (map text (map shown es)) q → ⊥
  absent-Contains [] h there = absurd (omega (arith, there.1))
  absent-Contains (e ∷ es) h there = by (test e.0) refl (absent-Contains es)
    where
      by : (b : Bool) → test e.0 ≡ b → (is_some (lookup test es) ≡ false → Contains (map text (map shown es)) q → ⊥) → ⊥
      by true t rest = true≢false (rw t at h)
      by false t rest = elim (Contains-append_cases (text (shown e) ∷ []) (map text (map shown es)) q there) [
        | inl first ↦ elim (Contains-push_cases [] (text (shown e)) q first) [
          | inl none ↦ absurd (omega (arith, none.1))
          | inr same ↦ true≢false (sym ((bytes_eq-Decides q (text (shown e))).1 (sym same)) ∙ sym (says e) ∙ t)
        ]
        | inr later ↦ rest (rw t at h) later
      ]

  -- the place of the first key that passes
  pub place-is : (es : List (K × X)) → position_or_len test (keys_of es) ≡ position_or_len (λ v. bytes_eq q (text v)) (map shown es)
  place-is [] = refl
  place-is (e ∷ es) = λ i. cond (not (says e i)) (1 + place-is es i) 0

pub none-from_is_some : {X : Type 0} (o : Option X) → is_some o ≡ false → o ≡ None
none-from_is_some None h = refl
none-from_is_some (Some x) h = absurd (true≢false h)

-- what holds of an answer that is there, or not, as a look-up's is
pub when_some : {A B : Type 0} (P : Type 0) (o : Option A) (l : Option B) → is_some o ≡ is_some l → (is_some l ≡ true → P) → IfSome o (λ _. P)
when_some P None l same f = tt
when_some P (Some x) l same f = f (sym same)

pub when_none : {A B : Type 0} (P : Type 0) (o : Option A) (l : Option B) → is_some o ≡ is_some l → (is_some l ≡ false → P) → IfNone o P
when_none P None l same f = f (sym same)
when_none P (Some x) l same f = tt

pub place_some : {K : Type 0} (test : K → Bool) (keys : List K) (o : Option ℕ) (n : ℕ) → o ≡ position test keys → position_or_len test keys ≡ n → IfSome o (λ place. place ≡ n)
place_some test keys o n is same = by (nat_lt (position_or_len test keys) (length keys)) o is
  where
    by : (b : Bool) (o : Option ℕ) → o ≡ cond b (Some (position_or_len test keys)) None → IfSome o (λ place. place ≡ n)
    by b None e = tt
    by true (Some x) e = let same_place : x ≡ position_or_len test keys = cc in same_place ∙ same
    by false (Some x) e = absurd (true≢false (ap is_some e))

-- one more entry, as it is shown
pub shown-push : {A V : Type 0} (shown : A → V) (es new : List A) (e : A) (v : V) → new ≡ es ++ e ∷ [] → shown e ≡ v → map shown new ≡ map shown es ++ v ∷ []
shown-push shown es new e v grown is = ap (map shown) grown ∙ map-append shown es (e ∷ []) ∙ ap (λ x. map shown es ++ x ∷ []) is

-- an answer that says whether something is there
pub tells : (P : Type 0) (r b : Bool) → r ≡ b → (b ≡ true → P) → (b ≡ false → P → ⊥) → IsTrue r ↔ P
tells P true b same there absent = (λ _. there (sym same), λ _. refl)
tells P false b same there absent = (λ t. absurd (true≢false (sym t)), λ p. absurd (absent (sym same) p))
