-- The grants of a handle, read by the heads of its values.
use Rattle.std.proofs.Common.{◌≡◌, ◌≤◌, ◌<◌, ◌+◌, ◌++◌, ℕ, List, [], ◌∷◌, true, false, cond, map, take, length, get_or, Some, None, refl, sym, ap, ◌∙◌, arith}
use Rattle.std.specs.List.{AllByRecursion}
use Rattle.std.proofs.lemmas.List.{take_more, flat_map_more}
use Rattle.std.proofs.lemmas.List.Sums.{sum_by-cons, sum_by_more, sum_by-take-le}
use Rattle.hdl_limits.specs.Counts.{at_most_u64}
use Rattle.hdl_value.specs.Refs.{is_admin, value_grants, admin_in}
use Rattle.hdl_value.specs.Refs as refs
use Rattle.hdl_value.specs.declared.value.Value.{Value}
use Rattle.hdl_rows.specs.declared.reads.TheConstants.{CALL_OCTETS}
use Rattle.hdl_rows.specs.Heads.{head, heads_of}
use Rattle.hdl_rows.specs.Reads.{of_value, values_octets}
use Rattle.hdl_rows.specs.Table.{Table, place, at, values_of, HaveTheirIndexes}
use Rattle.hdl_rows.proofs.Indexed.{stand_at_their_own}
use Rattle.hdl_reach.specs.Cost.{admin_reads, admins_reads, grants_reads}
use Rattle.hdl_reach.specs.Granted.{grants_of_found, granted_by, all_granted_by, read_by, all_read_by}
use Rattle.hdl_reach.specs.Reach.{grants}

-- ---- one more head

pub granted_more : (t : Table) (h : List ℕ) (heads : List Value) (i : ℕ) (v : Value) → i < length heads → v ≡ get_or heads i v → all_granted_by t h (take (i + 1) heads) ≡ all_granted_by t h (take i heads) ++ granted_by t h v
granted_more t h heads i v low is =
    ap (all_granted_by t h) (take_more heads i v low) ∙ sym (flat_map_more (granted_by t h) [] (take i heads) (get_or heads i v)) ∙ ap (λ w. all_granted_by t h (take i heads) ++ granted_by t h w) (sym is)

read_more : (t : Table) (h : List ℕ) (heads : List Value) (i : ℕ) (v : Value) → i < length heads → v ≡ get_or heads i v → all_read_by t h (take (i + 1) heads) ≡ all_read_by t h (take i heads) + read_by t h v
read_more t h heads i v low is = sum_by_more (read_by t h) heads i v low ∙ ap (λ w. all_read_by t h (take i heads) + read_by t h w) (sym is)

pub read_less : (t : Table) (h : List ℕ) (heads : List Value) (i : ℕ) → all_read_by t h (take i heads) ≤ all_read_by t h heads
read_less t h heads i = sum_by-take-le (read_by t h) heads i

pub read_next : (t : Table) (h : List ℕ) (heads : List Value) (i : ℕ) (v : Value) → i < length heads → v ≡ get_or heads i v → all_read_by t h (take i heads) + read_by t h v ≤ all_read_by t h (take (i + 1) heads)
read_next t h heads i v low is = no_more _ _ (read_more t h heads i v low is)
  where
    no_more : (x y : ℕ) → x ≡ y → y ≤ x
    no_more x y same = omega (arith, same)

pub read_part : (t : Table) (h : List ℕ) (heads : List Value) (i : ℕ) (v : Value) → i < length heads → v ≡ get_or heads i v → all_read_by t h (take i heads) + read_by t h v ≤ all_read_by t h heads
read_part t h heads i v low is = less _ (all_read_by t h (take (i + 1) heads)) _ (read_next t h heads i v low is) (read_less t h heads (i + 1))
  where
    less : (x y z : ℕ) → x ≤ y → y ≤ z → x ≤ z
    less x y z one two = omega (arith, one, two)

-- what one more call reads
pub read_on : (x y one here old before after : ℕ) → before ≤ old + x → after ≤ before + here → here ≡ one → x + one ≤ y → after ≤ old + y
read_on x y one here old before after so_far read same most = omega (arith, so_far, read, same, most)

-- ---- heads of values that stand at their own indexes

abbrev Stands : Table → List ℕ → Value → Type 0
Stands t h v = at t (place h v.index) ≡ Some v

granted_here : (t : Table) (h : List ℕ) (v : Value) → Stands t h v → granted_by t h (head v) ≡ value_grants v
granted_here t h v stands =
    ap (λ o. cond (is_admin v) (grants_of_found o) []) stands
    ∙ (elim (is_admin v) as (λ b. is_admin v ≡ b → cond b (value_grants v) [] ≡ value_grants v) [
      | true ↦ λ is. refl
      | false ↦ λ is. ap (λ c. refs.granted_by (cond c (admin_in v.bytes) None)) (sym is)
    ]) refl

all_granted : (t : Table) (h : List ℕ) (vs : List Value) → AllByRecursion (Stands t h) vs → all_granted_by t h (map head vs) ≡ grants vs
all_granted t h [] all = refl
all_granted t h (v ∷ vs) all = λ k. granted_here t h v all.0 k ++ all_granted t h vs all.1 k

read_here : (t : Table) (h : List ℕ) (v : Value) → Stands t h v → read_by t h (head v) ≡ admin_reads v
read_here t h v stands = ap (λ o. cond (is_admin v) (CALL_OCTETS + of_value o) 0) stands

all_read : (t : Table) (h : List ℕ) (vs : List Value) → AllByRecursion (Stands t h) vs → all_read_by t h (map head vs) ≡ admins_reads vs
all_read t h [] all = refl
all_read t h (v ∷ vs) all = sum_by-cons (read_by t h) (head v) (map head vs) ∙ (λ k. read_here t h v all.0 k + all_read t h vs all.1 k) ∙ sym (sum_by-cons admin_reads v vs)

-- the grants by a handle's heads are those of its values
pub granted_whole : (t : Table) (h : List ℕ) → HaveTheirIndexes t h (values_of t h) → all_granted_by t h (heads_of t h) ≡ grants (values_of t h)
granted_whole t h have = all_granted t h (values_of t h) (stand_at_their_own t h have)

pub read_whole : (t : Table) (h : List ℕ) → HaveTheirIndexes t h (values_of t h) → all_read_by t h (heads_of t h) ≡ admins_reads (values_of t h)
read_whole t h have = all_read t h (values_of t h) (stand_at_their_own t h have)

-- ---- a search that begins: the heads are read, and then by them the values of type HS_ADMIN

pub looked_read : (t : Table) (h : List ℕ) (heads : List Value) (old new : ℕ) → heads ≡ heads_of t h → new ≡ at_most_u64 (old + (CALL_OCTETS + values_octets heads)) → new ≤ old + grants_reads t h
looked_read t h heads old new found read = omega (arith, read, ap values_octets found)

pub begun_read : (t u : Table) (h g : List ℕ) (heads read : List Value) (old before after : ℕ) → u ≡ t → g ≡ h → read ≡ heads → heads ≡ heads_of t h → HaveTheirIndexes t h (values_of t h)
    → before ≡ at_most_u64 (old + (CALL_OCTETS + values_octets heads)) → after ≤ before + all_read_by u g read → after ≤ old + grants_reads t h
begun_read t u h g heads read old before after same name is found have looked here =
    let whole : all_read_by u g read ≡ admins_reads (values_of t h) = (λ k. all_read_by (same k) (name k) ((is ∙ found) k)) ∙ read_whole t h have in
    omega (arith, looked, here, whole, ap values_octets found)

pub begun_by : (t u : Table) (h g : List ℕ) (heads read : List Value) → u ≡ t → g ≡ h → read ≡ heads → heads ≡ heads_of t h → HaveTheirIndexes t h (values_of t h) → all_granted_by u g read ≡ grants (values_of t h)
begun_by t u h g heads read same name is found have = (λ k. all_granted_by (same k) (name k) ((is ∙ found) k)) ∙ granted_whole t h have
