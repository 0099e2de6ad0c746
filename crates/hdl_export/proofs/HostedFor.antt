-- The prefixes that lines give to the publisher of a name are those that the register hosts for it.
use Rattle.std.proofs.Common.{◌≡◌, ℕ, ◌+◌, ◌==◌, ◌||◌, ◌&&◌, Bool, true, false, cond, List, [], ◌∷◌, ◌++◌, length, refl, sym, ap, ◌∙◌, append_assoc, append-nil, arith, inl, inr, Contains, true≢false}
use Rattle.std.specs.List.{slice_split, onto_first, list_any}
use Rattle.std.specs.Str.{bytes_eq}
use Rattle.std.proofs.lemmas.Grind.{common_steps}
use Rattle.std.proofs.lemmas.List.Elements.{Contains-append_cases, Contains-push_cases}
use Rattle.std.proofs.lemmas.Slice.Eq.{bytes_eq-Decides}
use Rattle.hdl_tenants.specs.Register.{Publisher, Hosting, Register, empty, names_of, hosts_among}
use Rattle.hdl_tenants.specs.Lines.{fields_of}
use Rattle.hdl_tenants.specs.Text.{Line, skipped, publisher, hosted, sited, opened, IsLine, IsSkipped, IsAllowed, AddsAll, register_after, place_of, IsAccepted}
use Rattle.hdl_export.specs.Prefixes.{prefix_given}
use Rattle.hdl_export.specs.Rows.{is_among}
use Rattle.hdl_export.specs.Laws.{prefixes_for}

-- ---- the place of a name tells the name

zero_later : (n : ℕ) → (0 == 1 + n) ≡ false
zero_later n = grind (arith, common_steps)

later_zero : (n : ℕ) → (1 + n == 0) ≡ false
later_zero n = grind (arith, common_steps)

both_later : (m n : ℕ) → (1 + m == 1 + n) ≡ (m == n)
both_later m n = grind (arith, common_steps)

pub place_tells : (ps more : List Publisher) (one name : List ℕ) → Contains (names_of ps) one → (place_of one ps == place_of name (ps ++ more)) ≡ bytes_eq one name
place_tells [] more one name there = absurd (omega (arith, there.1))
place_tells (p ∷ ps) more one name there = by (bytes_eq one p.name) (bytes_eq name p.name) refl refl (place_tells ps more one name)
  where
    same : (x y : List ℕ) → bytes_eq x y ≡ true → x ≡ y
    same x y e = (bytes_eq-Decides x y).0 e

    apart : (x y z : List ℕ) → bytes_eq x z ≡ true → bytes_eq y z ≡ false → bytes_eq x y ≡ bytes_eq y z
    apart x y z e f = ap (λ (w : List ℕ). bytes_eq w y) (same x z e) ∙ turned z y
      where
        turned : (a b : List ℕ) → bytes_eq a b ≡ bytes_eq b a
        turned a b = sides (bytes_eq a b) (bytes_eq b a) refl refl
          where
            sides : (m n : Bool) → bytes_eq a b ≡ m → bytes_eq b a ≡ n → bytes_eq a b ≡ bytes_eq b a
            sides true n g h = g ∙ sym ((bytes_eq-Decides b a).1 (sym ((bytes_eq-Decides a b).0 g)))
            sides false true g h = (bytes_eq-Decides a b).1 (sym ((bytes_eq-Decides b a).0 h)) ∙ sym h
            sides false false g h = g ∙ sym h

    by : (a b : Bool) → bytes_eq one p.name ≡ a → bytes_eq name p.name ≡ b → (Contains (names_of ps) one → (place_of one ps == place_of name (ps ++ more)) ≡ bytes_eq one name)
        → (place_of one (p ∷ ps) == place_of name ((p ∷ ps) ++ more)) ≡ bytes_eq one name
    by true true e f later = rw (e, f) (sym ((bytes_eq-Decides one name).1 (same one p.name e ∙ sym (same name p.name f))))
    by true false e f later = rw (e, f) (zero_later (place_of name (ps ++ more)) ∙ sym (apart one name p.name e f ∙ f))
    by false true e f later = rw (e, f) (later_zero (place_of one ps) ∙ sym (ap (bytes_eq one) (same name p.name f) ∙ e))
    by false false e f later = rw (e, f) (both_later (place_of one ps) (place_of name (ps ++ more)) ∙ later (elim (Contains-append_cases (p.name ∷ []) (names_of ps) one there) [
      | inl first ↦ elim (Contains-push_cases [] p.name one first) [
        | inl none ↦ absurd (omega (arith, none.1))
        | inr is ↦ absurd (true≢false (sym ((bytes_eq-Decides one p.name).1 (sym is)) ∙ e))
      ]
      | inr other ↦ other
    ]))

-- publishers are added behind those that are there
grows : (r s : Register) (texts : List (List ℕ)) → AddsAll r texts s → (more : List Publisher) × (s.publishers ≡ r.publishers ++ more)
grows r s [] h = ([], ap (λ (x : Register). x.publishers) h ∙ sym (append-nil r.publishers))
grows r s (text ∷ texts) h =
    let later = grows h.0 s texts h.2 in
    let first = one_line r h.1.0 in
    (first.0 ++ later.0, later.1 ∙ ap (λ (ps : List Publisher). ps ++ later.0) (ap (λ (x : Register). x.publishers) h.1.3 ∙ first.1) ∙ append_assoc r.publishers first.0 later.0)
  where
    one_line : (x : Register) (line : Line) → (more : List Publisher) × ((register_after x line).publishers ≡ x.publishers ++ more)
    one_line x skipped = ([], sym (append-nil x.publishers))
    one_line x (publisher p) = (p ∷ [], refl)
    one_line x (hosted prefix name a) = ([], sym (append-nil x.publishers))
    one_line x (sited name octets) = ([], sym (append-nil x.publishers))
    one_line x (opened handle v) = ([], sym (append-nil x.publishers))

-- ---- what each line gives

none_in : (name first : List ℕ) (more : List (List ℕ)) → prefix_given name ((35 ∷ first) ∷ more) ≡ []
none_in name first [] = refl
none_in name first (second ∷ []) = refl
none_in name first (second ∷ third ∷ more) = refl

none_onto : (name : List ℕ) (parts : List (List ℕ)) → prefix_given name (onto_first 35 parts) ≡ []
none_onto name [] = refl
none_onto name (part ∷ parts) = none_in name part parts

skipped_gives_none : (name text : List ℕ) → IsSkipped text → prefix_given name (fields_of text) ≡ []
skipped_gives_none name [] s = refl
skipped_gives_none name (first ∷ rest) (inl none) = absurd (omega (arith, ap length none))
skipped_gives_none name (first ∷ rest) (inr at) =
    let same : first ≡ 35 = cc in
    rw same (none_onto name (slice_split (λ b. b == 32) rest))

any_append : {X : Type 0} (p : X → Bool) (xs ys : List X) → list_any p (xs ++ ys) ≡ (list_any p xs || list_any p ys)
any_append p [] ys = refl
any_append p (x ∷ xs) ys = ap (λ b. p x || b) (any_append p xs ys) ∙ turn (p x) (list_any p xs) (list_any p ys)
  where
    turn : (a b c : Bool) → (a || (b || c)) ≡ ((a || b) || c)
    turn true b c = refl
    turn false b c = refl

or_false : (a : Bool) → a ≡ (a || false)
or_false true = refl
or_false false = refl

module _ (name q : List ℕ) (u : ℕ) where
  given_one : (b : Bool) (prefix : List ℕ) → ((b && bytes_eq q prefix) || false) ≡ is_among q (cond b (prefix ∷ []) [])
  given_one true prefix = refl
  given_one false prefix = refl

  line_gives : (r : Register) (text : List ℕ) (line : Line) (more : List Publisher) → u ≡ place_of name (r.publishers ++ more) → IsLine text line → IsAllowed r line
      → hosts_among (register_after r line).hostings u q ≡ (hosts_among r.hostings u q || is_among q (prefix_given name (fields_of text)))
  line_gives r text skipped more at is allowed = or_false (hosts_among r.hostings u q) ∙ ap (λ (ps : List (List ℕ)). hosts_among r.hostings u q || is_among q ps) (sym (skipped_gives_none name text is))
  line_gives r text (publisher p) more at is allowed = or_false (hosts_among r.hostings u q) ∙ ap (λ (fields : List (List ℕ)). hosts_among r.hostings u q || is_among q (prefix_given name fields)) (sym is.split)
  line_gives r text (sited one octets) more at is allowed = or_false (hosts_among r.hostings u q) ∙ ap (λ (fields : List (List ℕ)). hosts_among r.hostings u q || is_among q (prefix_given name fields)) (sym is.split)
  line_gives r text (opened handle v) more at is allowed = or_false (hosts_among r.hostings u q) ∙ ap (λ (fields : List (List ℕ)). hosts_among r.hostings u q || is_among q (prefix_given name fields)) (sym is.split)
  line_gives r text (hosted prefix one a) more at is allowed =
      let h : Hosting = record { prefix = prefix; publisher = place_of one r.publishers; algorithm = a } in
      let tells : (place_of one r.publishers == u) ≡ bytes_eq one name = ap (λ (n : ℕ). place_of one r.publishers == n) at ∙ place_tells r.publishers more one name allowed.0 in
      any_append (λ (x : Hosting). (x.publisher == u) && bytes_eq q x.prefix) r.hostings (h ∷ [])
      ∙ ap (λ b. hosts_among r.hostings u q || b)
      (ap (λ b. (b && bytes_eq q prefix) || false) tells ∙ given_one (bytes_eq one name) prefix ∙ ap (λ (fields : List (List ℕ)). is_among q (prefix_given name fields)) (sym is.split))

  all_given : (r s : Register) (texts : List (List ℕ)) → AddsAll r texts s → u ≡ place_of name s.publishers → hosts_among s.hostings u q ≡ (hosts_among r.hostings u q || is_among q (prefixes_for name texts))
  all_given r s [] h at = ap (λ (x : Register). hosts_among x.hostings u q) h ∙ or_false (hosts_among r.hostings u q)
  all_given r s (text ∷ texts) h at =
      let whole = grows r s (text ∷ texts) h in
      let first = line_gives r text h.1.0 whole.0 (at ∙ ap (place_of name) whole.1) h.1.1 h.1.2 in
      all_given h.0 s texts h.2 at
      ∙ ap (λ b. b || is_among q (prefixes_for name texts)) (ap (λ (x : Register). hosts_among x.hostings u q) h.1.3 ∙ first)
      ∙ turn (hosts_among r.hostings u q) (is_among q (prefix_given name (fields_of text))) (is_among q (prefixes_for name texts))
      ∙ ap (λ b. hosts_among r.hostings u q || b) (sym (any_append (λ p. bytes_eq q p) (prefix_given name (fields_of text)) (prefixes_for name texts)))
    where
      turn : (a b c : Bool) → ((a || b) || c) ≡ (a || (b || c))
      turn true b c = refl
      turn false b c = refl

pub hosted_for : (texts : List (List ℕ)) (r : Register) (name q : List ℕ) → IsAccepted texts r → hosts_among r.hostings (place_of name r.publishers) q ≡ is_among q (prefixes_for name texts)
hosted_for texts r name q h = all_given name q (place_of name r.publishers) empty r texts h refl
