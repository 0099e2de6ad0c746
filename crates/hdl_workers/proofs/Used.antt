-- Answers of a clock or of a source of nonces, and where they went.
use Rattle.std.proofs.Common.{◌≡◌, IsTrue, inl, inr, ℕ, List, [], ◌∷◌, ◌++◌, replicate, refl, ap, sym, append_assoc, append-nil, ◌∙◌}
use Rattle.std.proofs.lemmas.List.Concat.{flat_map-append}
use Rattle.std.specs.List.{flat_map}
use Rattle.hdl_workers.specs.declared.item.Item.{Item}
use Rattle.hdl_workers.specs.Door.{Takes, Gives}
use Rattle.hdl_workers.specs.declared.item.Item.TheVariants.{End}
use Rattle.hdl_workers.specs.declared.door.LoopClock
use Rattle.hdl_workers.specs.declared.door.Nonces
use Rattle.hdl_workers.specs.Stamps.{StampsUsed}
use Rattle.hdl_workers.specs.Sign.{AllUsed, WithEnd, moment_of, moments_of, nonce_of, nonces_of, MomentsUsed, NoncesUsed}

module _ {A : Type 0} (zero : A) where
  gives_both : (a xs b ys c : List A) → Gives zero a xs b → Gives zero b ys c → Gives zero a (xs ++ ys) c
  gives_both a [] b ys c e g = rw (← e) g
  gives_both a (x ∷ xs) b ys c (then, one, rest) g = (then, one, gives_both then xs b ys c rest g)

  pub used_still : (g u g' u' : List A) → g' ≡ g → u' ≡ u → AllUsed zero g u g' u'
  used_still g u g' u' p q = record { more = []; given = p; placed = q ∙ sym (append-nil u) }

  used_both : (g u g' u' g'' u'' : List A) → AllUsed zero g u g' u' → AllUsed zero g' u' g'' u'' → AllUsed zero g u g'' u''
  used_both g u g' u' g'' u'' a b = record {
    more = a.more ++ b.more;
    given = gives_both g a.more g' b.more g'' a.given b.given;
    placed = b.placed ∙ ap (λ w. w ++ b.more) a.placed ∙ append_assoc u a.more b.more;
  }

  -- an item with its answer
  used_one : {X : Type 0} (f : X → List A) (g : List A) (put : List X) (g' : List A) (put' : List X) (x : A) (i : X) → Takes zero g x g' → put' ≡ put ++ i ∷ [] → f i ≡ x ∷ [] → AllUsed zero g (flat_map f put) g' (flat_map f put')
  used_one f g put g' put' x i p q r = record {
    more = x ∷ [];
    given = (g', p, refl);
    placed = ap (flat_map f) q ∙ flat_map-append f put (i ∷ []) ∙ ap (λ w. flat_map f put ++ w) (append-nil (f i) ∙ r);
  }

-- an item without one
unused_one : {A X : Type 0} (f : X → List A) (put put' : List X) (i : X) → put' ≡ put ++ i ∷ [] → f i ≡ [] → flat_map f put' ≡ flat_map f put
unused_one f put put' i q r =
    ap (flat_map f) q ∙ flat_map-append f put (i ∷ []) ∙ ap (λ w. flat_map f put ++ w) (append-nil (f i) ∙ r) ∙ append-nil (flat_map f put)

moment_one : (g : List ℕ) (put : List Item) (g' : List ℕ) (put' : List Item) (x : ℕ) (i : Item) → Takes 0 g x g' → put' ≡ put ++ i ∷ [] → moment_of i ≡ x ∷ [] → MomentsUsed g put g' put'
moment_one = used_one 0 moment_of

nonce_one : (g : List (List ℕ)) (put : List Item) (g' : List (List ℕ)) (put' : List Item) (x : List ℕ) (i : Item) → Takes (replicate 16 0) g x g' → put' ≡ put ++ i ∷ [] → nonce_of i ≡ x ∷ [] → NoncesUsed g put g' put'
nonce_one = used_one (replicate 16 0) nonce_of

no_moment : (g g' : List ℕ) (put put' : List Item) (i : Item) → g' ≡ g → put' ≡ put ++ i ∷ [] → moment_of i ≡ [] → MomentsUsed g put g' put'
no_moment g g' put put' i e p q = used_still 0 g (moments_of put) g' (moments_of put') e (unused_one moment_of put put' i p q)

no_nonce : (g g' : List (List ℕ)) (put put' : List Item) (i : Item) → g' ≡ g → put' ≡ put ++ i ∷ [] → nonce_of i ≡ [] → NoncesUsed g put g' put'
no_nonce g g' put put' i e p q = used_still (replicate 16 0) g (nonces_of put) g' (nonces_of put') e (unused_one nonce_of put put' i p q)

moments_still : (g g' : List ℕ) (put put' : List Item) → g' ≡ g → put' ≡ put → MomentsUsed g put g' put'
moments_still g g' put put' e p = used_still 0 g (moments_of put) g' (moments_of put') e (ap moments_of p)

nonces_still : (g g' : List (List ℕ)) (put put' : List Item) → g' ≡ g → put' ≡ put → NoncesUsed g put g' put'
nonces_still g g' put put' e p = used_still (replicate 16 0) g (nonces_of put) g' (nonces_of put') e (ap nonces_of p)

-- the whole call began with nothing put
moments_all : (g : List ℕ) (p : List Item) (g' : List ℕ) (p' p'' : List Item) → MomentsUsed g p g' p' → p ≡ [] → moments_of p'' ≡ moments_of p' → Gives 0 g (moments_of p'') g'
moments_all g p g' p' p'' used e f =
    let placed : moments_of p'' ≡ used.more = f ∙ used.placed ∙ ap (λ x. moments_of x ++ used.more) e in
    rw placed used.given

nonces_all : (g : List (List ℕ)) (p : List Item) (g' : List (List ℕ)) (p' p'' : List Item) → NoncesUsed g p g' p' → p ≡ [] → nonces_of p'' ≡ nonces_of p' → Gives (replicate 16 0) g (nonces_of p'') g'
nonces_all g p g' p' p'' used e f =
    let placed : nonces_of p'' ≡ used.more = f ∙ used.placed ∙ ap (λ x. nonces_of x ++ used.more) e in
    rw placed used.given

-- both at once
module _ {C N : Type 0} (c : LoopClock.Ghosts C) (n : Nonces.Ghosts N) where
  pub stamps_both : (x y z : C × N × List Item) → StampsUsed c n x y → StampsUsed c n y z → StampsUsed c n x z
  stamps_both x y z a b = record {
    moments = λ t. used_both _ _ _ _ _ _ _ (a.moments t) (b.moments t);
    nonces = λ t. used_both _ _ _ _ _ _ _ (a.nonces t) (b.nonces t);
  }

  pub stamps_still : (x y : C × N × List Item) → (IsTrue c.is_observed → c.answers y.0 ≡ c.answers x.0) → (IsTrue n.is_observed → n.answers y.1 ≡ n.answers x.1) → y.2 ≡ x.2 → StampsUsed c n x y
  stamps_still x y e f put = record {
    moments = λ t. moments_still _ _ _ _ (e t) put;
    nonces = λ t. nonces_still _ _ _ _ (f t) put;
  }

  -- a frame was put
  pub stamp_one : (x y : C × N × List Item) (moment : ℕ) (nonce : List ℕ) (item : Item) → (IsTrue c.is_observed → Takes 0 (c.answers x.0) moment (c.answers y.0)) → (IsTrue n.is_observed → Takes (replicate 16 0) (n.answers x.1) nonce (n.answers y.1))
      → y.2 ≡ x.2 ++ item ∷ [] → moment_of item ≡ moment ∷ [] → nonce_of item ≡ nonce ∷ [] → StampsUsed c n x y
  stamp_one x y moment nonce item e f put a b = record {
    moments = λ t. moment_one _ _ _ _ moment item (e t) put a;
    nonces = λ t. nonce_one _ _ _ _ nonce item (f t) put b;
  }

  -- an item that is no frame was put
  pub no_stamp : (i i' : C) (j : N) (p p' : List Item) (item : Item) → (IsTrue c.is_observed → c.answers i' ≡ c.answers i) → p' ≡ p ++ item ∷ [] → moment_of item ≡ [] → nonce_of item ≡ [] → StampsUsed c n (i, j, p) (i', j, p')
  no_stamp i i' j p p' item e put a b = record {
    moments = λ t. no_moment _ _ _ _ item (e t) put a;
    nonces = λ t. no_nonce _ _ _ _ item refl put b;
  }

pub ruleset used_rules = (stamps_both, stamps_still)

end_moments : (a b : List Item) → WithEnd a b → moments_of b ≡ moments_of a
end_moments a b (inl e) = ap moments_of e
end_moments a b (inr e) = unused_one moment_of a b End e refl

end_nonces : (a b : List Item) → WithEnd a b → nonces_of b ≡ nonces_of a
end_nonces a b (inl e) = ap nonces_of e
end_nonces a b (inr e) = unused_one nonce_of a b End e refl

pub moments_ended : (g : List ℕ) (p : List Item) (h : List ℕ) (q : List Item) (g' : List ℕ) (r r' : List Item) → MomentsUsed g p h q → p ≡ [] → g' ≡ h → WithEnd q r → r' ≡ r → Gives 0 g (moments_of r') g'
moments_ended g p h q g' r r' used e still ends same =
    rw (still, same) (moments_all g p h q r used e (end_moments q r ends))

pub nonces_ended : (g : List (List ℕ)) (p : List Item) (h : List (List ℕ)) (q : List Item) (g' : List (List ℕ)) (r r' : List Item) → NoncesUsed g p h q → p ≡ [] → g' ≡ h → WithEnd q r → r' ≡ r → Gives (replicate 16 0) g (nonces_of r') g'
nonces_ended g p h q g' r r' used e still ends same =
    rw (still, same) (nonces_all g p h q r used e (end_nonces q r ends))

pub ruleset ended_rules = (moments_ended, nonces_ended)
