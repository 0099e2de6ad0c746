-- A request is decided in one way.
use Rattle.std.proofs.Common.{◌≡◌, ℕ, List, Bool, Option, Some, None, sym, ap, ◌∙◌}
use Rattle.hdl_value.specs.Place.{Place}
use Rattle.hdl_auth.specs.declared.algorithm.Algorithm.{Algorithm}
use Rattle.hdl_rows.specs.Table.{Table, values_of}
use Rattle.hdl_reach.specs.Reach.{grants}
use Rattle.hdl_reach.proofs.Agreement.{one_union}
use Rattle.hdl_msg.specs.Message.{Content}
use Rattle.hdl_ops.specs.Admission.{refusal}
use Rattle.hdl_ops.specs.TableViews.{table_view}
use Rattle.hdl_ops.specs.Proven.{Proof, target, key_of, MaskOf, value_at, code_before_key, code_for_key, IsCodeBy}
use Rattle.hdl_ops.specs.Decisions.{Level, Anyone, Proven, Decision, Decides, DecidesBy, decision}

mask_one : (t : Table) (h : Option (List ℕ)) (k : Option Place) (m n : Option ℕ) → MaskOf t h k m → MaskOf t h k n → m ≡ n
mask_one t None k m n a b = a ∙ sym b
mask_one t (Some h) None m n a b = a ∙ sym b
mask_one t (Some h) (Some k) m n a b = one_union t k None (grants (values_of t h)) m n a b

code_one : (t : Table) (r : Content) (p : Proof) (early : Option ℕ) (c c' : ℕ) → IsCodeBy t r p early c → IsCodeBy t r p early c' → c ≡ c'
code_one t r p (Some e) c c' a b = a ∙ sym b
code_one t r p None c c' a b = a.2 ∙ ap (λ m. code_for_key (table_view t r) r p m (value_at t (key_of p))) (mask_one t (target r.operation) (key_of p) a.0 b.0 a.1 b.1) ∙ sym b.2

one_by : (a : Algorithm) (t : Table) (r : Content) (level : Level) (c : Option ℕ) (d d' : Decision) → DecidesBy a t r level c d → DecidesBy a t r level c d' → d ≡ d'
one_by g t r level (Some c) d d' a b = a ∙ sym b
one_by g t r Anyone None d d' a b = a ∙ sym b
one_by g t r (Proven p) None d d' a b = a.2 ∙ ap (decision g (table_view t r) r (Proven p)) (code_one t r p (code_before_key (table_view t r) r p) a.0 b.0 a.1 b.1) ∙ sym b.2

pub one_decision_lem : (hosts : List ℕ → Bool) (a : Algorithm) (t : Table) (r : Content) (level : Level) (d d' : Decision) → Decides hosts a t r level d → Decides hosts a t r level d' → d ≡ d'
one_decision_lem hosts g t r level d d' a b = one_by g t r level (refusal hosts r) d d' a b
