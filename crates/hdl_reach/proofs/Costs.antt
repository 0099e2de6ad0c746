-- What was read, call by call.
use Rattle.std.proofs.Common.{◌≡◌, ◌≤◌, ◌+◌, ℕ, List, arith, subst, sym}
use Rattle.hdl_value.specs.Place.{Place}
use Rattle.hdl_rows.specs.declared.reads.TheConstants.{CALL_OCTETS}
use Rattle.hdl_rows.specs.Heads.{heads_of}
use Rattle.hdl_rows.specs.Reads.{of_value, values_octets, names_octets}
use Rattle.hdl_rows.specs.Table.{Table, at, names_of}
use Rattle.hdl_reach.specs.Cost.{Most, HasAtMost, ReadsWithin, value_cost, heads_cost, grants_cost, names_cost, grants_reads}

pub unread : (t : Table) (cost : Most → ℕ) (n m : ℕ) → m ≡ n → ReadsWithin t cost n m
unread t cost n m same most has = omega (arith, same)

pub value_read : (t : Table) (p : Place) (old new : ℕ) → new ≤ old + (CALL_OCTETS + of_value (at t p)) → ReadsWithin t value_cost old new
value_read t p old new read most has = omega (arith, read, has.value p)

pub heads_read : (t : Table) (h : List ℕ) (old new : ℕ) → new ≤ old + (CALL_OCTETS + values_octets (heads_of t h)) → ReadsWithin t heads_cost old new
heads_read t h old new read most has = omega (arith, read, has.heads h)

pub grants_read : (t : Table) (h : List ℕ) (old new : ℕ) → new ≤ old + grants_reads t h → ReadsWithin t grants_cost old new
grants_read t h old new read most has = omega (arith, read, has.heads h, has.admins h)

-- a list that was given, or a call that was refused
pub names_given : (t : Table) (a : List ℕ) (given : ℕ) (old new : ℕ) → given ≡ names_octets (names_of t a) → new ≤ old + (CALL_OCTETS + given) → ReadsWithin t names_cost old new
names_given t a given old new is read most has = omega (arith, read, is, has.names a)

-- what was read in two calls, of which the first left the table as it was
pub both_read : (t u : Table) (a b : Most → ℕ) (x y z : ℕ) → u ≡ t → ReadsWithin t a x y → ReadsWithin u b y z → ReadsWithin t (λ (m : Most). a m + b m) x z
both_read t u a b x y z same one other most has =
    let first = one most has in
    let second = other most (subst (λ (v : Table). HasAtMost v most) (sym same) has) in
    omega (arith, first, second)

-- less was read than so much
pub less_read : (t : Table) (a b : Most → ℕ) (x y : ℕ) → ((m : Most) → a m ≤ b m) → ReadsWithin t a x y → ReadsWithin t b x y
less_read t a b x y less read most has =
    let few = read most has in
    let fewer = less most in
    omega (arith, few, fewer)

-- the first of two calls counts as less than both
pub first_read : (t : Table) (a b : Most → ℕ) (x y : ℕ) → ReadsWithin t a x y → ReadsWithin t (λ (m : Most). a m + b m) x y
first_read t a b x y read most has =
    let few = read most has in
    omega (arith, few)

-- a call of a search: what was read up to its last look, and that look
pub search_read : (t : Table) (most old before left new : ℕ) → before + left ≤ old + most → ReadsWithin t value_cost before new → ReadsWithin t (λ (m : Most). most + value_cost m) old new
search_read t most old before left new read last greatest has =
    let one = last greatest has in
    omega (arith, read, one)

-- and one that ended before
pub search_ended : (t : Table) (most old left new : ℕ) → new + left ≤ old + most → ReadsWithin t (λ (m : Most). most + value_cost m) old new
search_ended t most old left new read greatest has = omega (arith, read)
