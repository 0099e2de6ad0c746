-- A lane's challenges: their numbers stay different.
use Rattle.std.proofs.Common.{◌≡◌, ℕ, zero, suc, ◌-◌, Bool, true, false, not, cond, eqb, ◌&&◌, List, [], ◌∷◌, ◌++◌, length, drop, refl}
use Rattle.std.specs.List.{AllByRecursion, filter}
use Rattle.std.proofs.lemmas.Bool.{eqb-true}
use Rattle.hdl_slots.specs.declared.pending.Challenge.{Challenge}
use Rattle.hdl_slots.specs.Lanes.{NumbersDiffer, without, last_eight}

abbrev pub IsNot : ℕ → Challenge → Type 0
IsNot n d = eqb d.number n ≡ false

all_cond : (P : Challenge → Type 0) (b : Bool) (x : Challenge) (xs : List Challenge) → P x → AllByRecursion P xs → AllByRecursion P (cond b (x ∷ xs) xs)
all_cond P true x xs p ps = (p, ps)
all_cond P false x xs p ps = ps

all_filter : (P : Challenge → Type 0) (test : Challenge → Bool) (xs : List Challenge) → AllByRecursion P xs → AllByRecursion P (filter test xs)
all_filter P test [] ps = tt
all_filter P test (x ∷ xs) ps = all_cond P (test x) x (filter test xs) ps.0 (all_filter P test xs ps.1)

differ_cond : (b : Bool) (x : Challenge) (xs : List Challenge) → AllByRecursion (IsNot x.number) xs → NumbersDiffer xs → NumbersDiffer (cond b (x ∷ xs) xs)
differ_cond true x xs p ps = (p, ps)
differ_cond false x xs p ps = ps

pub differ-filter : (test : Challenge → Bool) (xs : List Challenge) → NumbersDiffer xs → NumbersDiffer (filter test xs)
differ-filter test [] ps = tt
differ-filter test (x ∷ xs) ps = differ_cond (test x) x (filter test xs) (all_filter (IsNot x.number) test xs ps.0) (differ-filter test xs ps.1)

differ_drop : (k : ℕ) (xs : List Challenge) → NumbersDiffer xs → NumbersDiffer (drop k xs)
differ_drop zero xs ps = ps
differ_drop (suc k) [] ps = tt
differ_drop (suc k) (x ∷ xs) ps = differ_drop k xs ps.1

all_push : (P : Challenge → Type 0) (xs : List Challenge) (x : Challenge) → AllByRecursion P xs → P x → AllByRecursion P (xs ++ x ∷ [])
all_push P [] x ps p = (p, tt)
all_push P (y ∷ ys) x ps p = (ps.0, all_push P ys x ps.1 p)

swapped : (m n : ℕ) (b : Bool) → eqb n m ≡ b → eqb m n ≡ false → b ≡ false
swapped m n true e h = absurd (let same : n ≡ m = eqb-true n m e in cc)
swapped m n false e h = refl

differ_push : (xs : List Challenge) (x : Challenge) → NumbersDiffer xs → AllByRecursion (IsNot x.number) xs → NumbersDiffer (xs ++ x ∷ [])
differ_push [] x ps new = (tt, tt)
differ_push (y ∷ ys) x ps new =
    let other : eqb x.number y.number ≡ false = swapped y.number x.number (eqb x.number y.number) refl new.0 in
    (all_push (IsNot y.number) ys x ps.0 other, differ_push ys x ps.1 new.1)

without_cond : (n : ℕ) (b : Bool) (x : Challenge) (xs : List Challenge) → eqb x.number n ≡ b → AllByRecursion (IsNot n) xs → AllByRecursion (IsNot n) (cond (not b) (x ∷ xs) xs)
without_cond n true x xs e ps = ps
without_cond n false x xs e ps = (e, ps)

pub all_without : (n : ℕ) (xs : List Challenge) → AllByRecursion (IsNot n) (without n xs)
all_without n [] = tt
all_without n (x ∷ xs) = without_cond n (eqb x.number n) x (without n xs) refl (all_without n xs)

-- what `put` leaves
pub differ_challenged : (xs : List Challenge) (x : Challenge) → NumbersDiffer xs → NumbersDiffer (last_eight (without x.number xs ++ x ∷ []))
differ_challenged xs x ps =
    differ_drop (length (without x.number xs ++ x ∷ []) - 8) (without x.number xs ++ x ∷ [])
    (differ_push (without x.number xs) x (differ-filter (λ c. not (eqb c.number x.number)) xs ps) (all_without x.number xs))

pub and_false : (b c : Bool) → c ≡ false → b && c ≡ false
and_false true c h = h
and_false false c h = refl
