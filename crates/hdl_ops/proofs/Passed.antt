-- What a request that is let pass names, and the handle whose administrators are asked: both are hosted.
use Rattle.std.proofs.Common.{◌≡◌, ℕ, List, ◌∷◌, Bool, true, false, not, Some, None, refl, sym, ap, ◌∙◌, IsTrue, is_none, unwrap_or, true≢false}
use Rattle.std.specs.Prelude.{if◌then◌else◌}
use Rattle.hdl_name.specs.Name.{IsHandle, canonical, prefix}
use Rattle.hdl_name.specs.Tests.{is_handle}
use Rattle.hdl_name.proofs.Equal.{handle_decides, prefix-canonical, lower_prefix}
use Rattle.hdl_rows.proofs.Writes.{some_none}
use Rattle.hdl_msg.specs.Message.{Content}
use Rattle.hdl_ops.specs.First.{first}
use Rattle.hdl_ops.specs.Requests.{sent_handle, handle_of, creates}
use Rattle.hdl_ops.specs.Admission.{handle_in, refusal}
use Rattle.hdl_ops.specs.Proven.{admin_octets, target}

-- a table of tests gave nothing: the first of them fails, and the others give nothing
row_fails : (b : Bool) (c : ℕ) (rows : List (Bool × ℕ)) → first ((b, c) ∷ rows) ≡ None → (b ≡ false) × (first rows ≡ None)
unfolding first
row_fails true c rows e = absurd (some_none c e)
row_fails false c rows e = (refl, e)

not_false : (b : Bool) → not b ≡ false → b ≡ true
not_false true e = refl
not_false false e = absurd (true≢false e)

name_from : (s : List ℕ) → is_none (handle_in s) ≡ false → IsHandle s
unfolding handle_in
name_from s e = (handle_decides s).0 (tested (is_handle s) e)
  where
    tested : (b : Bool) → is_none (if b then Some (canonical s) else None) ≡ false → b ≡ true
    tested true e = refl
    tested false e = absurd (true≢false e)

-- The request names a handle, under a hosted prefix.
pub record Passes (hosted : List ℕ → Bool) (r : Content) : Type 0 where
  pub handle : IsHandle (sent_handle r.operation)
  pub mine : IsTrue (hosted (prefix (sent_handle r.operation)))

pub passes_unless_refused : (hosted : List ℕ → Bool) (r : Content) → refusal hosted r ≡ None → Passes hosted r
unfolding refusal
passes_unless_refused hosted r e =
    let unused = row_fails _ _ _ e in
    let name = row_fails _ _ _ unused.1 in
    let under_root = row_fails _ _ _ name.1 in
    let admin = row_fails _ _ _ under_root.1 in
    let hosting = row_fails _ _ _ admin.1 in
    record { handle = name_from _ name.0; mine = not_false _ hosting.0 }

pub canonical_is_hosted : (hosted : List ℕ → Bool) (r : Content) → Passes hosted r → IsTrue (hosted (prefix (canonical (sent_handle r.operation))))
canonical_is_hosted hosted r p = ap hosted (prefix-canonical (sent_handle r.operation) p.handle) ∙ p.mine

pub handle_is_hosted : (hosted : List ℕ → Bool) (r : Content) → Passes hosted r → IsTrue (hosted (prefix (handle_of r)))
unfolding handle_of
handle_is_hosted hosted r p = canonical_is_hosted hosted r p

-- ---- the handle whose administrators are asked

handle_in_is : (s h : List ℕ) → handle_in s ≡ Some h → prefix h ≡ prefix s
unfolding handle_in
handle_in_is s h e = tested (is_handle s) refl e
  where
    tested : (b : Bool) → is_handle s ≡ b → (if b then Some (canonical s) else None) ≡ Some h → prefix h ≡ prefix s
    tested true is e = ap prefix (sym (ap (λ o. unwrap_or o h) e)) ∙ prefix-canonical s ((handle_decides s).0 is)
    tested false is e = absurd (some_none h (sym e))

pub target_is_hosted : (hosted : List ℕ → Bool) (r : Content) → Passes hosted r → (h : List ℕ) → target r.operation ≡ Some h → IsTrue (hosted (prefix h))
unfolding target
target_is_hosted hosted r p h e = made (creates r.operation) e
  where
    n : List ℕ
    n = sent_handle r.operation

    made : (b : Bool) → (if b then handle_in (admin_octets (prefix n)) else Some (canonical n)) ≡ Some h → IsTrue (hosted (prefix h))
    made true e = ap hosted (handle_in_is (admin_octets (prefix n)) h e ∙ lower_prefix n) ∙ p.mine
    made false e = ap hosted (ap prefix (sym (ap (λ o. unwrap_or o h) e)) ∙ prefix-canonical n p.handle) ∙ p.mine
