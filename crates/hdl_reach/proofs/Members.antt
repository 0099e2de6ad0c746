-- Places among others.
use Rattle.std.proofs.Common.{◌≡◌, ◌⊎◌, inl, inr, List, [], ◌∷◌, ◌++◌, Bool, true, false, ◌||◌, refl, sym, ap, subst, ◌∙◌, Ordering, Less, Equal, Greater, is_eq, IsTrue}
use Rattle.std.specs.Prelude.{bytes_eq}
use Rattle.std.specs.List.{AllByRecursion}
use Rattle.std.specs.Ordering.{nat_cmp, ordering_then}
use Rattle.std.specs.Cmp.{IsEquivalence, nat_cmp_total, tied_itself}
use Rattle.std.proofs.lemmas.Cmp.{eq_by_cmp_equiv}
use Rattle.std.proofs.lemmas.Map.Text.{is_eq-slice_cmp}
use Rattle.hdl_value.specs.Place.{Place, handle_cmp, same_place}
use Rattle.hdl_value.proofs.Places.{place_total, places_equal, place_itself}
use Rattle.hdl_reach.specs.Reach.{is_among}

pub same_laws : IsEquivalence same_place
same_laws = eq_by_cmp_equiv place_total

tied : (o : Ordering) → is_eq (ordering_then o Equal) ≡ is_eq o
tied Less = refl
tied Equal = refl
tied Greater = refl

-- handles by their octets, where the indexes are the same
pub same_by_handle : (p q : Place) → p.index ≡ q.index → bytes_eq p.handle q.handle ≡ same_place p q
same_by_handle p q is =
    sym (is_eq-slice_cmp p.handle q.handle) ∙ sym (tied (handle_cmp p.handle q.handle)) ∙ ap (λ o. is_eq (ordering_then (handle_cmp p.handle q.handle) o)) (sym (subst (λ n. nat_cmp p.index n ≡ Equal) is (tied_itself nat_cmp_total p.index)))

pub either_true : (a b : Bool) → (a || b) ≡ true → (a ≡ true) ⊎ (b ≡ true)
either_true true b h = inl refl
either_true false b h = inr h

pub or_true : (a b : Bool) → b ≡ true → (a || b) ≡ true
or_true true b h = refl
or_true false b h = h

-- what holds of each holds of one of them
pub at_among : (P : Place → Type 0) (ps : List Place) (p : Place) → AllByRecursion P ps → IsTrue (is_among p ps) → P p
at_among P [] p all h = absurd (let no : false ≡ true = h in cc)
at_among P (q ∷ ps) p all h = elim (either_true (same_place p q) (is_among p ps) h) [ inl here ↦ subst P (sym (places_equal p q here)) all.0 | inr later ↦ at_among P ps p all.1 later ]

pub among_append : (ps qs : List Place) (p : Place) → is_among p (ps ++ qs) ≡ (is_among p ps || is_among p qs)
among_append [] qs p = refl
among_append (x ∷ ps) qs p = ap (λ b. same_place p x || b) (among_append ps qs p) ∙ turn (same_place p x) _ _
  where
    turn : (a b c : Bool) → (a || (b || c)) ≡ ((a || b) || c)
    turn true b c = refl
    turn false b c = refl

pub among_front : (ps qs : List Place) (p : Place) → IsTrue (is_among p ps) → IsTrue (is_among p (ps ++ qs))
among_front ps qs p h = among_append ps qs p ∙ ap (λ b. b || is_among p qs) h

pub among_back : (ps qs : List Place) (p : Place) → IsTrue (is_among p qs) → IsTrue (is_among p (ps ++ qs))
among_back ps qs p h = among_append ps qs p ∙ or_true (is_among p ps) _ h

pub among_first : (p : Place) (ps : List Place) → IsTrue (is_among p (p ∷ ps))
among_first p ps = ap (λ b. b || is_among p ps) (place_itself p)

pub among_last : (ps : List Place) (p : Place) → IsTrue (is_among p (ps ++ p ∷ []))
among_last ps p = among_back ps (p ∷ []) p (among_first p [])

-- ---- lists of which each has a property

pub all_weaker : {X : Type 0} (P Q : X → Type 0) → ((x : X) → P x → Q x) → (xs : List X) → AllByRecursion P xs → AllByRecursion Q xs
all_weaker P Q f [] all = tt
all_weaker P Q f (x ∷ xs) all = (f x all.0, all_weaker P Q f xs all.1)

pub all_append : {X : Type 0} (P : X → Type 0) (xs ys : List X) → AllByRecursion P xs → AllByRecursion P ys → AllByRecursion P (xs ++ ys)
all_append P [] ys a b = b
all_append P (x ∷ xs) ys a b = (a.0, all_append P xs ys a.1 b)

pub all_push : {X : Type 0} (P : X → Type 0) (xs : List X) (x : X) → AllByRecursion P xs → P x → AllByRecursion P (xs ++ x ∷ [])
all_push P xs x all here = all_append P xs (x ∷ []) all (here, tt)

-- what holds of each place among these holds of all
pub each_among : (P : Place → Type 0) (ps : List Place) → ((p : Place) → IsTrue (is_among p ps) → P p) → AllByRecursion P ps
each_among P [] f = tt
each_among P (q ∷ ps) f = (f q (among_first q ps), each_among P ps (λ p there. f p (or_true _ _ there)))
