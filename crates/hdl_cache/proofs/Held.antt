-- Searches that are kept, when one goes or comes.
use Rattle.std.proofs.Common.{◌≡◌, ℕ, suc, Bool, true, false, if◌then◌else◌, List, [], ◌∷◌, ◌++◌, take, drop, All, Result, Ok, Err, sym, subst}
use Rattle.std.specs.List.{remove, items_where_true}
use Rattle.std.specs.List.Retain.{IsFiltered}
use Rattle.std.specs.Result.{is_ok}
use Rattle.std.proofs.lemmas.List.Elements.{All-nil, All-cons, All-head, All-tail, All-append, All-push, All-take, All-drop}

module _ {X : Type 0} (P : X → Type 0) where
  pub all_removed : (xs : List X) (i : ℕ) → All P xs → All P (remove xs i)
  all_removed xs i all = All-append P (take i xs) (drop (suc i) xs) (All-take P i xs all) (All-drop P (suc i) xs all)

  pub all_pushed : {V E : Type 0} (r : Result V E) (xs ys : List X) (x : X) → ys ≡ (if is_ok r then xs ++ x ∷ [] else xs) → All P xs → P x → All P ys
  all_pushed (Ok v) xs ys x is all here = subst (All P) (sym is) (All-push P xs x all here)
  all_pushed (Err e) xs ys x is all here = subst (All P) (sym is) all

  where_true : (bs : List Bool) (xs : List X) → All P xs → All P (items_where_true bs xs)
  where_true [] xs all = All-nil P
  where_true (b ∷ bs) [] all = All-nil P
  where_true (true ∷ bs) (x ∷ xs) all = All-cons P x (items_where_true bs xs) (All-head P x xs all) (where_true bs xs (All-tail P x xs all))
  where_true (false ∷ bs) (x ∷ xs) all = where_true bs xs (All-tail P x xs all)

  pub all_filtered : {F : Type 0} (R : F → X → Bool → F → Type 0) (f : F) (xs ys : List X) → IsFiltered R f xs ys → All P xs → All P ys
  all_filtered R f xs ys k all = subst (All P) (sym k.4) (where_true k.0 xs all)
