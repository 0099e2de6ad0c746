-- Two tables that agree on the rows of the hosted prefixes and at a closed C: the same is decided on both.
use Rattle.std.proofs.Common.{◌≡◌, ⊎_elim, ℕ, List, [], ◌∷◌, ◌++◌, Bool, true, false, cond, Option, Some, None, map, refl, sym, ap, ◌∙◌, subst, IsTrue, IsFalse, true≢false}
use Rattle.std.specs.Prelude.{if◌then◌else◌}
use Rattle.std.specs.List.{AllByRecursion}
use Rattle.std.specs.FinMap as map
use Rattle.std.specs.FinSet as set
use Rattle.hdl_name.specs.Name.{prefix, authority}
use Rattle.hdl_value.specs.declared.value.Value.{Value}
use Rattle.hdl_value.specs.Place.{Place, same_handle, same_place}
use Rattle.hdl_value.specs.Refs.{refs_of, value_grants, listed_places}
use Rattle.hdl_value.proofs.Places.{handle_total, handle_antisymmetric, place_total, place_antisymmetric, handles_equal}
use Rattle.hdl_rows.specs.Table.{Table, at, place, values_of, names_of, in_order}
use Rattle.hdl_rows.proofs.Writes.{same_values, some_none}
use Rattle.hdl_reach.specs.Reach.{is_among, grants, IsUnion, IsMask}
use Rattle.hdl_reach.specs.Laws.{GrantsAmong}
use Rattle.hdl_reach.proofs.Agreement.{union_agrees, union_among}
use Rattle.hdl_reach.proofs.Members.{among_first, or_true, all_append}
use Rattle.hdl_tenants.specs.Register.{root}
use Rattle.hdl_msg.specs.Message.{Content}
use Rattle.hdl_ops.specs.Admission.{refusal}
use Rattle.hdl_ops.specs.Requests.{sent_handle, handle_of, is_list}
use Rattle.hdl_ops.specs.TableViews.{TableView, table_view}
use Rattle.hdl_ops.specs.Anyone.{code_for_anyone}
use Rattle.hdl_ops.specs.Proven.{Proof, target, key_of, MaskOf, value_at, code_before_key, code_for_key, IsCodeBy}
use Rattle.hdl_auth.specs.declared.algorithm.Algorithm.{Algorithm}
use Rattle.hdl_ops.specs.Decisions.{Level, Anyone, Proven, Decision, Decides, DecidesBy, decision}
use Rattle.hdl_ops.proofs.Passed.{Passes, passes_unless_refused, handle_is_hosted, target_is_hosted}
use Rattle.hdl_laws.specs.Isolation.{Agrees, IsClosed, Covers}
use Rattle.hdl_laws.proofs.Maps.{get-retained, contains-retained, gated_and, each_value}
use Rattle.hdl_laws.proofs.Names.{prefix_by_authority}

-- ---- what is seen of the hosted rows

module _ (hosted : List ℕ → Bool) (C : List Place) (t t' : Table) (agree : Agrees hosted C t t') where
  values_agree : (h : List ℕ) → IsTrue (hosted (prefix h)) → values_of t h ≡ values_of t' h
  values_agree h mine = same_values t t' h (λ i. agree.rows (place h i) mine)

  names_agree : (a : List ℕ) → IsTrue (hosted a) → IsFalse (hosted root) → names_of t a ≡ names_of t' a
  names_agree a mine rootless =
      let other : a ≡ root → ⊥ = λ e. true≢false (sym mine ∙ ap hosted e ∙ rootless) in
      ap in_order (set.same_set handle_total handle_antisymmetric _ _ (λ h.
      contains-retained handle_antisymmetric t.handles (λ g. same_handle (authority g) a) h
      ∙ gated_and (same_handle (authority h) a) _ _ (λ e. agree.handles h (ap hosted (prefix_by_authority h a e other) ∙ mine))
      ∙ sym (contains-retained handle_antisymmetric t'.handles (λ g. same_handle (authority g) a) h)))

  pub sight_agrees : (r : Content) → Passes hosted r → IsFalse (hosted root) → table_view t r ≡ table_view t' r
  unfolding table_view
  sight_agrees r passes rootless =
      let mine = handle_is_hosted hosted r passes in
      λ i. record {
        there = agree.handles (handle_of r) mine i;
        values = values_agree (handle_of r) mine i;
        names = if is_list r.operation then names_agree (prefix (sent_handle r.operation)) passes.mine rootless i else [];
      }

  -- ---- masks

  module _ (closed : IsClosed hosted C t) where
    grants_covered : (gs : List (ℕ × Place)) (more : List Place) → Covers C (map (λ g. g.1) gs ++ more) → GrantsAmong C gs
    grants_covered [] more c = tt
    grants_covered (g ∷ gs) more c =
        let rest : List Place = map (λ (x : ℕ × Place). x.1) gs ++ more in
        (c g.1 (among_first g.1 rest), grants_covered gs more (λ p m. c p (or_true (same_place p g.1) (is_among p rest) m)))

    grants_among : (vs : List Value) → AllByRecursion (λ v. Covers C (refs_of v)) vs → GrantsAmong C (grants vs)
    grants_among [] all = tt
    grants_among (v ∷ vs) all = all_append _ (value_grants v) (grants vs) (grants_covered (value_grants v) (listed_places v) all.0) (grants_among vs all.1)

    gate : {X : Type 0} (b : Bool) (x : Option X) (v : X) → cond b x None ≡ Some v → (b ≡ true) × (x ≡ Some v)
    gate true x v e = (refl, e)
    gate false x v e = absurd (some_none v (sym e))

    values_covered : (h : List ℕ) → IsTrue (hosted (prefix h)) → AllByRecursion (λ v. Covers C (refs_of v)) (values_of t h)
    values_covered h mine =
        each_value place_total (λ v. Covers C (refs_of v)) (map.retain_keys t.values (λ p. same_handle p.handle h)) (λ p v e.
        let there = gate (same_handle p.handle h) (at t p) v (sym (get-retained place_antisymmetric t.values (λ q. same_handle q.handle h) p) ∙ e) in
        closed.rows p v (ap (λ g. hosted (prefix g)) (handles_equal p.handle h there.0) ∙ mine) there.1)

    handle_grants : (h : List ℕ) → IsTrue (hosted (prefix h)) → GrantsAmong C (grants (values_of t h))
    handle_grants h mine = grants_among (values_of t h) (values_covered h mine)

    mask_agrees : (h : List ℕ) (k : Place) (m : Option ℕ) → IsTrue (hosted (prefix h)) → IsMask t h k m → IsMask t' h k m
    mask_agrees h k m mine is =
        subst (λ vs. IsUnion t' k None (grants vs) m) (values_agree h mine) (union_agrees t t' C closed.onward agree.covered k None (grants (values_of t h)) m (handle_grants h mine) is)

    -- the place of an administrator is in C
    key_among : (h : List ℕ) (k : Place) (m : ℕ) → IsTrue (hosted (prefix h)) → IsMask t h k (Some m) → IsTrue (is_among k C)
    key_among h k m mine is = ⊎_elim (λ here. here) (λ e. absurd (some_none m e)) (union_among t t' C closed.onward k None (grants (values_of t h)) (Some m) (handle_grants h mine) is)

    abbrev TargetIsHosted : Option (List ℕ) → Type 0
    TargetIsHosted target = (h : List ℕ) → target ≡ Some h → IsTrue (hosted (prefix h))

    mask_of_agrees : (target : Option (List ℕ)) (k : Option Place) (m : Option ℕ) → TargetIsHosted target → MaskOf t target k m → MaskOf t' target k m
    mask_of_agrees None k m mine is = is
    mask_of_agrees (Some h) None m mine is = is
    mask_of_agrees (Some h) (Some k) m mine is = mask_agrees h k m (mine h refl) is

    key_agrees : (s : TableView) (r : Content) (p : Proof) (target : Option (List ℕ)) (k : Option Place) (m : Option ℕ) → TargetIsHosted target → MaskOf t target k m
        → code_for_key s r p m (value_at t k) ≡ code_for_key s r p m (value_at t' k)
    key_agrees s r p target k None mine is = refl
    key_agrees s r p None k (Some m) mine is = absurd (some_none m is)
    key_agrees s r p (Some h) None (Some m) mine is = absurd (some_none m is)
    key_agrees s r p (Some h) (Some k) (Some m) mine is = ap (code_for_key s r p (Some m)) (agree.covered k (key_among h k m (mine h refl) is))

    -- ---- decisions

    code_agrees_by : (r : Content) (p : Proof) → Passes hosted r → IsFalse (hosted root) → (early : Option ℕ) (code : ℕ) → IsCodeBy t r p early code → IsCodeBy t' r p early code
    code_agrees_by r p passes rootless (Some c) code is = is
    code_agrees_by r p passes rootless None code is =
        let own = target_is_hosted hosted r passes in
        let k = key_of p in (
          is.0,
          mask_of_agrees (target r.operation) k is.0 own is.1,
          is.2 ∙ key_agrees (table_view t r) r p (target r.operation) k is.0 own is.1 ∙ ap (λ s. code_for_key s r p is.0 (value_at t' k)) (sight_agrees r passes rootless),
        )

    decides_agrees_by : IsFalse (hosted root) → (a : Algorithm) (r : Content) (level : Level) (d : Decision) (c : Option ℕ) → refusal hosted r ≡ c → DecidesBy a t r level c d → DecidesBy a t' r level c d
    decides_agrees_by rootless a r level d (Some code) e is = is
    decides_agrees_by rootless a r Anyone d None e is =
        is ∙ ap (λ s. decision a s r Anyone (code_for_anyone s r)) (sight_agrees r (passes_unless_refused hosted r e) rootless)
    decides_agrees_by rootless a r (Proven p) d None e is =
        let passes = passes_unless_refused hosted r e in (
          is.0,
          subst (λ s. IsCodeBy t' r p (code_before_key s r p) is.0) (sight_agrees r passes rootless) (code_agrees_by r p passes rootless (code_before_key (table_view t r) r p) is.0 is.1),
          is.2 ∙ ap (λ s. decision a s r (Proven p) is.0) (sight_agrees r passes rootless),
        )

    pub decides_agrees : IsFalse (hosted root) → (a : Algorithm) (r : Content) (level : Level) (d : Decision) → Decides hosted a t r level d → Decides hosted a t' r level d
    decides_agrees rootless a r level d is = decides_agrees_by rootless a r level d (refusal hosted r) refl is
