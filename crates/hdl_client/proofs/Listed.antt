-- Elements of a list, one after the other.
use Rattle.std.proofs.Common.{◌≡◌, ◌↔◌, List, [], ◌∷◌, All, IsTrue, true, false, sym, subst}
use Rattle.std.proofs.lemmas.List.Elements.{All-nil, All-cons, All-head, All-tail}

-- one that is as it should be
pub one_more : {X : Type 0} (P : X → Type 0) (Q : Type 0) (x : X) (rest all : List X) → all ≡ x ∷ rest → P x → (All P all ↔ Q) → (All P rest ↔ Q)
one_more P Q x rest all e p h = (
  λ r. h.0 (subst (All P) (sym e) (All-cons P x rest p r)),
  λ q. All-tail P x rest (subst (All P) e (h.1 q)),
)

-- one that isn't
pub one_not : {X : Type 0} (P : X → Type 0) (Q : Type 0) (x : X) (rest all : List X) → all ≡ x ∷ rest → ¬ (P x) → (All P all ↔ Q) → ¬ Q
one_not P Q x rest all e n h = λ q. n (All-head P x rest (subst (All P) e (h.1 q)))

-- the end
pub to_the_end : {X : Type 0} (P : X → Type 0) (Q : Type 0) (all : List X) → all ≡ [] → (All P all ↔ Q) → Q
to_the_end P Q all e h = h.0 (subst (All P) (sym e) (All-nil P))
