-- What a decision reads.
use Rattle.std.proofs.Common.{◌≡◌, ◌≤◌, ◌+◌, ◌-◌, ◌^◌, ◌==◌, max, ℕ, List, Bool, true, false, not, cond, Option, Some, None, Result, Ok, Err, IfOk, ap, sym, subst, ◌∙◌, arith, true≢false}
use Rattle.std.proofs.Math.Nat.{min-le_left}
use Rattle.hdl_value.specs.Place.{Place}
use Rattle.hdl_value.specs.declared.value.Value.{Value}
use Rattle.hdl_value.specs.declared.wire.Wire.{Wire}
use Rattle.hdl_rows.specs.Table.{Table, at, names_of}
use Rattle.hdl_rows.specs.declared.rows.Refused.{Refused}
use Rattle.hdl_rows.specs.declared.reads.TheConstants.{CALL_OCTETS}
use Rattle.hdl_rows.specs.Reads.{names_octets, of_value, reads_after}
use Rattle.hdl_limits.specs.Counts.{at_most_u64}
use Rattle.hdl_reach.specs.Cost.{Most, HasAtMost, ReadsWithin, value_cost, heads_cost, names_cost}
use Rattle.hdl_reach.proofs.Costs.{unread, value_read, heads_read, names_given, first_read, both_read, less_read}
use Rattle.hdl_cache.specs.Cost.{mask_cost}
use Rattle.hdl_msg.specs.Codes.{response_number}
use Rattle.hdl_msg.specs.declared.codes.ResponseCode.TheVariants.{Success}
use Rattle.hdl_msg.specs.declared.fields.Header.{Header}
use Rattle.hdl_msg.specs.Message.{Content, Operation, resolution, site_info, create, delete, add, remove, modify, list, response, other}
use Rattle.hdl_ops.specs.Anyone.{code_for_anyone}
use Rattle.hdl_ops.specs.declared.seeing.TheConstants.{READ_MAX}
use Rattle.hdl_ops.specs.Cost.{cost_of_heads, shown_cost, granted_cost, key_cost, decision_cost, anyone_cost, proof_cost}
use Rattle.hdl_ops.specs.Decisions.{Anyone, Proven}
use Rattle.hdl_ops.specs.First.{first, or_code}
use Rattle.hdl_ops.specs.Proven.{Proof}
use Rattle.hdl_ops.specs.Requests.{handle_of, resolves, is_list}
use Rattle.hdl_ops.specs.TableViews.{TableView, table_view}

pub sight_read : (t : Table) (r : Content) (old new : ℕ) → new ≤ old + cost_of_heads (table_view t r) → ReadsWithin t heads_cost old new
unfolding table_view
sight_read t r old new read = heads_read t (handle_of r) old new read

-- a value that was looked up, or a look that was refused
pub at_read : (t : Table) (p : Place) (result : Result (Option Value) Refused) (old new : ℕ) → new ≡ reads_after of_value result old → IfOk result (λ v. v ≡ at t p) → ReadsWithin t value_cost old new
at_read t p (Ok v) old new reads found =
    let gave : of_value v ≡ of_value (at t p) = ap of_value found in
    value_read t p old new (omega (arith, reads, gave, min-le_left (old + (CALL_OCTETS + of_value v)) (2 ^ 64 - 1)))
at_read t p (Err e) old new reads found = unread t value_cost old new reads

-- the mask of a key, and then its value
pub key_read : (t u : Table) (x y z : ℕ) → u ≡ t → ReadsWithin t mask_cost x y → ReadsWithin u value_cost y z → ReadsWithin t key_cost x z
key_read t u x y z same mask value = both_read t u mask_cost value_cost x y z same mask value

pub mask_read : (t : Table) (x y : ℕ) → ReadsWithin t mask_cost x y → ReadsWithin t key_cost x y
mask_read t x y mask = first_read t mask_cost value_cost x y mask

-- ---- what is granted

pub names_read : {X E : Type 0} (t : Table) (a : List ℕ) (given : X → ℕ) (result : Result X E) (old new : ℕ) → new ≡ reads_after given result old → IfOk result (λ x. given x ≡ names_octets (names_of t a)) → ReadsWithin t names_cost old new
names_read t a given (Ok x) old new reads is = names_given t a (given x) old new is (omega (arith, reads, min-le_left (old + (CALL_OCTETS + given x)) (2 ^ 64 - 1)))
names_read t a given (Err e) old new reads is = unread t names_cost old new reads

pub shows_granted : (t : Table) (o : Operation) (x y : ℕ) → resolves o ≡ true → ReadsWithin t shown_cost x y → ReadsWithin t (granted_cost o) x y
shows_granted t (resolution handle is ts) x y e read = read
shows_granted t (create handle news) x y e read = absurd (true≢false (sym e))
shows_granted t (delete handle) x y e read = absurd (true≢false (sym e))
shows_granted t (add handle news) x y e read = absurd (true≢false (sym e))
shows_granted t (remove handle is) x y e read = absurd (true≢false (sym e))
shows_granted t (modify handle news) x y e read = absurd (true≢false (sym e))
shows_granted t (list handle) x y e read = absurd (true≢false (sym e))
shows_granted t (response kind handle index answer) x y e read = absurd (true≢false (sym e))
shows_granted t (site_info octets) x y e read = absurd (true≢false (sym e))
shows_granted t (other octets) x y e read = absurd (true≢false (sym e))

pub lists_granted : (t : Table) (o : Operation) (x y : ℕ) → is_list o ≡ true → ReadsWithin t names_cost x y → ReadsWithin t (granted_cost o) x y
lists_granted t (list handle) x y e read = read
lists_granted t (resolution handle is ts) x y e read = absurd (true≢false (sym e))
lists_granted t (create handle news) x y e read = absurd (true≢false (sym e))
lists_granted t (delete handle) x y e read = absurd (true≢false (sym e))
lists_granted t (add handle news) x y e read = absurd (true≢false (sym e))
lists_granted t (remove handle is) x y e read = absurd (true≢false (sym e))
lists_granted t (modify handle news) x y e read = absurd (true≢false (sym e))
lists_granted t (response kind handle index answer) x y e read = absurd (true≢false (sym e))
lists_granted t (site_info octets) x y e read = absurd (true≢false (sym e))
lists_granted t (other octets) x y e read = absurd (true≢false (sym e))

-- ---- a decision for anyone

-- a list is granted to nobody without a proof
list_needs : (b : Bool) → or_code (cond (not b) (Some 100) None) 402 ≡ 1 → ⊥
list_needs true e = true≢false (ap (λ n. n == 402) e)
list_needs false e = true≢false (ap (λ n. n == 100) e)

granted_less : (s : TableView) (wire : Wire) (header : Header) (o : Operation) → code_for_anyone s (record { wire = wire; header = header; operation = o }) ≡ response_number Success → (m : Most) → heads_cost m + granted_cost o m ≤ decision_cost Anyone o m
unfolding code_for_anyone first
granted_less s wire header (resolution handle is ts) e m = omega arith
granted_less s wire header (create handle news) e m = omega arith
granted_less s wire header (delete handle) e m = omega arith
granted_less s wire header (add handle news) e m = omega arith
granted_less s wire header (remove handle is) e m = omega arith
granted_less s wire header (modify handle news) e m = omega arith
granted_less s wire header (list handle) e m = absurd (list_needs s.there e)
granted_less s wire header (response kind handle index answer) e m = omega arith
granted_less s wire header (site_info octets) e m = omega arith
granted_less s wire header (other octets) e m = omega arith

heads_less : (o : Operation) (m : Most) → heads_cost m ≤ decision_cost Anyone o m
heads_less (resolution handle is ts) m = omega arith
heads_less (create handle news) m = omega arith
heads_less (delete handle) m = omega arith
heads_less (add handle news) m = omega arith
heads_less (remove handle is) m = omega arith
heads_less (modify handle news) m = omega arith
heads_less (list handle) m = omega arith
heads_less (response kind handle index answer) m = omega arith
heads_less (site_info octets) m = omega arith
heads_less (other octets) m = omega arith

pub anyone_seen : (t : Table) (o : Operation) (x y : ℕ) → ReadsWithin t heads_cost x y → ReadsWithin t (decision_cost Anyone o) x y
anyone_seen t o x y seen = less_read t heads_cost (decision_cost Anyone o) x y (heads_less o) seen

pub anyone_read : (t u : Table) (s : TableView) (r : Content) (code x y z : ℕ) → u ≡ t → code ≡ code_for_anyone s r → code ≡ response_number Success → ReadsWithin t heads_cost x y → ReadsWithin u (granted_cost r.operation) y z
    → ReadsWithin t (decision_cost Anyone r.operation) x z
anyone_read t u s r code x y z same coded granted seen read =
    less_read t (λ (m : Most). heads_cost m + granted_cost r.operation m) (decision_cost Anyone r.operation) x z
    (granted_less s r.wire r.header r.operation (sym coded ∙ granted))
    (both_read t u heads_cost (granted_cost r.operation) x y z same seen read)

-- ---- a decision with a proof: what is seen of the handle, then the key, then what is granted

pub proof_seen : (t : Table) (p : Proof) (o : Operation) (x y : ℕ) → ReadsWithin t heads_cost x y → ReadsWithin t (decision_cost (Proven p) o) x y
proof_seen t p o x y seen = first_read t heads_cost (λ (m : Most). key_cost m + granted_cost o m) x y seen

pub proof_coded : (t u : Table) (p : Proof) (o : Operation) (x y z : ℕ) → u ≡ t → ReadsWithin t heads_cost x y → ReadsWithin u key_cost y z → ReadsWithin t (decision_cost (Proven p) o) x z
proof_coded t u p o x y z same seen coded = both_read t u heads_cost (λ (m : Most). key_cost m + granted_cost o m) x y z same seen (first_read u key_cost (granted_cost o) y z coded)

pub proof_read : (t u v : Table) (p : Proof) (o : Operation) (x y z k : ℕ) → u ≡ t → v ≡ u → ReadsWithin t heads_cost x y → ReadsWithin u key_cost y z → ReadsWithin v (granted_cost o) z k → ReadsWithin t (decision_cost (Proven p) o) x k
proof_read t u v p o x y z k same still seen coded granted =
    both_read t u heads_cost (λ (m : Most). key_cost m + granted_cost o m) x y k same seen (both_read u v key_cost (granted_cost o) y z k still coded granted)

-- ---- whatever the operation

decided_less : (o : Operation) (m : Most) → decision_cost Anyone o m ≤ anyone_cost m
decided_less (resolution handle is ts) m = omega arith
decided_less (create handle news) m = omega arith
decided_less (delete handle) m = omega arith
decided_less (add handle news) m = omega arith
decided_less (remove handle is) m = omega arith
decided_less (modify handle news) m = omega arith
decided_less (list handle) m = omega arith
decided_less (response kind handle index answer) m = omega arith
decided_less (site_info octets) m = omega arith
decided_less (other octets) m = omega arith

granted_most : (o : Operation) (m : Most) → granted_cost o m ≤ max (shown_cost m) (names_cost m)
granted_most (resolution handle is ts) m = omega arith
granted_most (create handle news) m = omega arith
granted_most (delete handle) m = omega arith
granted_most (add handle news) m = omega arith
granted_most (remove handle is) m = omega arith
granted_most (modify handle news) m = omega arith
granted_most (list handle) m = omega arith
granted_most (response kind handle index answer) m = omega arith
granted_most (site_info octets) m = omega arith
granted_most (other octets) m = omega arith

pub by_anyone : (t : Table) (o : Operation) (x y : ℕ) → ReadsWithin t (decision_cost Anyone o) x y → ReadsWithin t anyone_cost x y
by_anyone t o x y read = less_read t (decision_cost Anyone o) anyone_cost x y (decided_less o) read

pub by_proof : (t : Table) (p : Proof) (o : Operation) (x y : ℕ) → ReadsWithin t (decision_cost (Proven p) o) x y → ReadsWithin t proof_cost x y
by_proof t p o x y read = less_read t (decision_cost (Proven p) o) proof_cost x y (λ (m : Most). let less = granted_most o m in omega (arith, less)) read

-- ---- values that are read one by one

pub few_left : (n octets : ℕ) → octets ≡ at_most_u64 n → octets ≤ READ_MAX → n ≤ READ_MAX
few_left n octets is low = omega (arith, is, low)

pub one_read : (t u : Table) (p : Place) (result : Result (Option Value) Refused) (n old before after : ℕ) → u ≡ t → n ≤ READ_MAX → before ≤ old + n → after ≡ reads_after of_value result before → IfOk result (λ v. v ≡ at u p)
    → ReadsWithin t shown_cost old after
one_read t u p result n old before after same few read reads found most has =
    let one = at_read u p result before after reads found most (subst (λ (v : Table). HasAtMost v most) (sym same) has) in
    omega (arith, few, read, one)

pub counted_on : (x octets found result y w : ℕ) → octets ≡ at_most_u64 x → found ≡ at_most_u64 w → result ≡ at_most_u64 (octets + (CALL_OCTETS + found)) → y ≡ x + (CALL_OCTETS + w) → result ≡ at_most_u64 y
counted_on x octets found result y w before here sum is = omega (arith, before, here, sum, is)

pub read_on : (x y w old before after : ℕ) → before ≤ old + x → after ≡ at_most_u64 (before + (CALL_OCTETS + w)) → y ≡ x + (CALL_OCTETS + w) → after ≤ old + y
read_on x y w old before after read reads is = omega (arith, read, is, reads, min-le_left (before + (CALL_OCTETS + w)) (2 ^ 64 - 1))
