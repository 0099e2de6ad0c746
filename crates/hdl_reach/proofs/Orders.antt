-- The order of masks.
use Rattle.std.proofs.Common.{◌≡◌, ℕ, Bool, true, false, if◌then◌else◌, Option, Some, None, ◌⊎◌, inl, inr, refl, sym, ap, subst, ◌∙◌, arith, bit_or, nat_eq, eqb-true, IsTrue, IsSome, true≢false}
use Rattle.std.proofs.lemmas.Bool.{eqb-false}
use Rattle.std.specs.Int.Bits.{or_self}
use Rattle.std.proofs.lemmas.Nat.{or_comm}
use Rattle.std.proofs.lemmas.Nat.Bits.{bit_at_or, same_from_bits}
use Rattle.hdl_reach.specs.Reach.{join_masks}
use Rattle.hdl_reach.specs.Found.{IsWithin, mask_in, waits, raised}

or_assoc : (a b c : ℕ) → bit_or (bit_or a b) c ≡ bit_or a (bit_or b c)
or_assoc a b c = same_from_bits (bit_or (bit_or a b) c) (bit_or a (bit_or b c)) (λ i. omega (arith, bit_at_or (bit_or a b) c i, bit_at_or a b i, bit_at_or a (bit_or b c) i, bit_at_or b c i))

pub within_itself : (m : Option ℕ) → IsWithin m m
within_itself None = tt
within_itself (Some a) = or_self a

pub within_trans : (a b c : Option ℕ) → IsWithin a b → IsWithin b c → IsWithin a c
within_trans None b c h k = tt
within_trans (Some a) None c h k = absurd h
within_trans (Some a) (Some b) None h k = absurd k
within_trans (Some a) (Some b) (Some c) h k = ap (bit_or a) (sym k) ∙ sym (or_assoc a b c) ∙ ap (λ n. bit_or n c) h ∙ k

pub within_both : (a b : Option ℕ) → IsWithin a b → IsWithin b a → a ≡ b
within_both None None h k = refl
within_both None (Some b) h k = absurd k
within_both (Some a) None h k = absurd h
within_both (Some a) (Some b) h k = ap Some (sym k ∙ or_comm b a ∙ h)

-- what has a mask within it, has one
pub some_within : (a b : Option ℕ) → IsWithin a b → IsSome a → IsSome b
some_within None b h there = absurd (true≢false (sym there))
some_within (Some a) None h there = absurd h
some_within (Some a) (Some b) h there = refl

pub join_first : (o : Option ℕ) (m : ℕ) → IsWithin o (Some (join_masks o m))
join_first None m = tt
join_first (Some n) m = sym (or_assoc n n m) ∙ ap (λ k. bit_or k m) (or_self n)

pub join_second : (o : Option ℕ) (m : ℕ) → IsWithin (Some m) (Some (join_masks o m))
join_second None m = or_self m
join_second (Some n) m = or_comm m (bit_or n m) ∙ or_assoc n m m ∙ ap (bit_or n) (or_self m)

pub join_least : (o : Option ℕ) (m : ℕ) (b : Option ℕ) → IsWithin o b → IsWithin (Some m) b → IsWithin (Some (join_masks o m)) b
join_least None m b h k = k
join_least (Some n) m None h k = absurd h
join_least (Some n) m (Some b) h k = or_assoc n m b ∙ ap (bit_or n) k ∙ h

-- ---- a mask more

pub raised_mask : (k : Option (ℕ × Bool)) (m : ℕ) → (raised k m).0 ≡ join_masks (mask_in k) m
raised_mask None m = refl
raised_mask (Some k) m = by (nat_eq (bit_or k.0 m) k.0) refl
  where
    by : (b : Bool) → nat_eq (bit_or k.0 m) k.0 ≡ b → (if b then k else (bit_or k.0 m, true)).0 ≡ bit_or k.0 m
    by true same = sym (eqb-true (bit_or k.0 m) k.0 same)
    by false other = refl

pub raised_waits : (k : Option (ℕ × Bool)) (m : ℕ) → IsTrue (waits (Some (raised k m))) ⊎ (Some (raised k m) ≡ k)
raised_waits None m = inl refl
raised_waits (Some k) m = by (nat_eq (bit_or k.0 m) k.0)
  where
    by : (b : Bool) → IsTrue (waits (Some (if b then k else (bit_or k.0 m, true)))) ⊎ (Some (if b then k else (bit_or k.0 m, true)) ≡ Some k)
    by true = inr refl
    by false = inl refl

-- what is within a mask brings nothing more
raised_same : (k : Option (ℕ × Bool)) (m : ℕ) → IsWithin (Some m) (mask_in k) → Some (raised k m) ≡ k
raised_same None m h = absurd h
raised_same (Some k) m h = by (nat_eq (bit_or k.0 m) k.0) refl
  where
    by : (b : Bool) → nat_eq (bit_or k.0 m) k.0 ≡ b → Some (if b then k else (bit_or k.0 m, true)) ≡ Some k
    by true same = refl
    by false other = absurd (eqb-false (bit_or k.0 m) k.0 other (or_comm k.0 m ∙ h))

-- the same mask again
pub raised_again : (k : Option (ℕ × Bool)) (m : ℕ) → raised (Some (raised k m)) m ≡ raised k m
raised_again k m =
    let there : IsWithin (Some m) (Some (raised k m).0) = subst (λ n. IsWithin (Some m) (Some n)) (sym (raised_mask k m)) (join_second (mask_in k) m) in
    same_some _ _ (raised_same (Some (raised k m)) m there)
  where
    same_some : (x y : ℕ × Bool) → Some x ≡ Some y → x ≡ y
    same_some x y e = cc
