-- What lists gain and keep.
use Rattle.std.proofs.Common.{◌≡◌, ◌⊎◌, inl, inr, ℕ, zero, suc, ◌<◌, Bool, true, false, cond, List, [], ◌∷◌, ◌++◌, length, take, drop, get_or, Option, Some, None, Contains, refl, ap, sym, subst, ◌∙◌, arith}
use Rattle.std.specs.Prelude.{option_to_list}
use Rattle.std.specs.List.{remove, position}
use Rattle.std.proofs.lemmas.List.Elements.{Contains-append_right, Contains-push_cases}
use Rattle.hdl_audit.specs.Naming.{OnlyGains}

behind : {X : Type 0} (x y : X) (xs : List X) → Contains xs x → Contains (y ∷ xs) x
behind x y xs (k, low, is) = (suc k, omega arith, is)

kept_by_cut : {X : Type 0} (xs : List X) (i : ℕ) (x : X) → Contains (take i xs ++ drop (suc i) xs) x → Contains xs x
kept_by_cut [] zero x h = h
kept_by_cut [] (suc i) x h = h
kept_by_cut (y ∷ xs) zero x h = behind x y xs h
kept_by_cut (y ∷ xs) (suc i) x (zero, low, is) = (zero, omega arith, is)
kept_by_cut (y ∷ xs) (suc i) x (suc k, low, is) = behind x y xs (kept_by_cut xs i x (k, omega arith, is))

-- what is there once one is removed was there before
pub kept_by_remove : {X : Type 0} (old new : List X) (i : ℕ) → new ≡ remove old i → (x : X) → Contains new x → Contains old x
kept_by_remove old new i is x h = kept_by_cut old i x (subst (λ xs. Contains xs x) is h)

pub kept_by_pop : {X : Type 0} (front : Option X) (old new : List X) → old ≡ option_to_list front ++ new → (x : X) → Contains new x → Contains old x
kept_by_pop front old new is x h = subst (λ xs. Contains xs x) (sym is) (Contains-append_right (option_to_list front) new x h)

pub first_there : {X : Type 0} (x : X) (old new : List X) → old ≡ option_to_list (Some x) ++ new → Contains old x
first_there x old new is = subst (λ xs. Contains xs x) (sym is) (zero, omega arith, refl)

pub gained_by_push : {X : Type 0} (done : Bool) (old new : List X) (y : X) → new ≡ cond done (old ++ y ∷ []) old → (x : X) → Contains new x → Contains old x ⊎ (y ≡ x)
gained_by_push true old new y is x h = Contains-push_cases old y x (subst (λ xs. Contains xs x) is h)
gained_by_push false old new y is x h = inl (subst (λ xs. Contains xs x) is h)

pub one_of_none : {A : Type 0} → A ⊎ ⊥ → A
one_of_none (inl a) = a
one_of_none (inr w) = absurd w

pub gains_nothing : {X : Type 0} (old new : List X) (IsNew : X → Type 0) → new ≡ old → OnlyGains old IsNew new
gains_nothing old new IsNew is x h = inl (subst (λ xs. Contains xs x) is h)
