-- The test of soundness says what soundness is.
use Rattle.std.proofs.Common.{◌≡◌, ◌≢◌, arith, Result, Ok, Err, ◌<◌, ◌≤◌, ℕ, List, Bool, true, false, cond, ltb, leb, length, Option, Some, None, is_some, refl, sym, Decides}
use Rattle.std.specs.Prelude.{MatchResult}
use Rattle.std.specs.Result.{is_ok}
use Rattle.std.proofs.lemmas.Bool.{false_from_ne_true, ltb-true, lt-ltb, leb-true, le-leb}
use Rattle.std.proofs.lemmas.Bool.Decides.{Decides-and}
use Rattle.std.proofs.lemmas.Slice.Eq.{bytes_eq-Decides}
use Rattle.hdl_limits.specs.Octets.{AreOctets}
use Rattle.hdl_value.specs.declared.value.Value.{Value}
use Rattle.hdl_value.specs.declared.fault.ValueFault.{ValueFault}
use Rattle.hdl_value.specs.declared.fault.ValueFault.TheVariants.{Short, IndexZero, TypeLong, DataLong, RefsMany, BadAdmin, BadList, Memory}
use Rattle.hdl_value.specs.Spelling.{Fits}
use Rattle.hdl_value.specs.Data.{admin_kind, list_kind, HasAdminData, HasListData}
use Rattle.hdl_limits.specs.declared.TheConstants.{TYPE_MAX, DATA_MAX, REFERENCES_MAX}
use Rattle.hdl_value.specs.Fault.{IsInLimits, IsSound, IsFirstFault}
use Rattle.hdl_value.specs.Refs.{is_admin, is_list, admin_in, list_in}
use Rattle.hdl_value.specs.Tests.{is_in_limits, has_good_data, is_sound}
use Rattle.hdl_value.proofs.DataRead.{admin_in_is, admin_in_again, list_in_is, list_in_again}

limits_decide : (v : Value) → Decides (is_in_limits v) (IsInLimits v)
limits_decide v =
    let all = Decides-and _ _ (Decides-and _ _ (Decides-and _ _
    (let d : Decides (ltb 0 v.index) (0 < v.index) = (ltb-true _ _, lt-ltb _ _) in d)
    (let d : Decides (leb (length v.kind) TYPE_MAX) (length v.kind ≤ TYPE_MAX) = (leb-true _ _, le-leb _ _) in d))
    (let d : Decides (leb (length v.bytes) DATA_MAX) (length v.bytes ≤ DATA_MAX) = (leb-true _ _, le-leb _ _) in d))
    (let d : Decides (leb (length v.references) REFERENCES_MAX) (length v.references ≤ REFERENCES_MAX) = (leb-true _ _, le-leb _ _) in d) in (
      λ e. let h = all.0 e in record { index = h.0.0.0; kind = h.0.0.1; bytes = h.0.1; references = h.1 },
      λ h. all.1 (((h.index, h.kind), h.bytes), h.references),
    )

-- a test that is asked for only where another holds
implies_decides : (b x : Bool) (P Q : Type 0) → Decides b P → Decides x Q → Decides (cond b x true) (P → Q)
implies_decides true x P Q p q = (λ e h. q.0 e, λ f. q.1 (f (p.0 refl)))
implies_decides false x P Q p q = (λ e h. let wrong = p.1 h in absurd cc, λ f. refl)

some_decides : {A : Type 0} (o : Option A) (P : Type 0) → ((x : A) → o ≡ Some x → P) → (P → (x : A) × (o ≡ Some x)) → Decides (is_some o) P
some_decides None P to from = (λ e. absurd cc, λ p. let wrong = (from p).1 in absurd cc)
some_decides (Some x) P to from = (λ e. to x refl, λ p. refl)

data_decides : (v : Value) → Fits v → Decides (has_good_data v) ((v.kind ≡ admin_kind → HasAdminData v.bytes) × (v.kind ≡ list_kind → HasListData v.bytes))
data_decides v fits =
    Decides-and _ _
    (implies_decides (is_admin v) (is_some (admin_in v.bytes)) (v.kind ≡ admin_kind) (HasAdminData v.bytes) (bytes_eq-Decides v.kind admin_kind)
    (some_decides (admin_in v.bytes) (HasAdminData v.bytes) (λ x e. (x.0, x.1, admin_in_is v.bytes x.0 x.1 fits.bytes.each e)) (λ h. ((h.0, h.1), admin_in_again v.bytes h.0 h.1 h.2))))
    (implies_decides (is_list v) (is_some (list_in v.bytes)) (v.kind ≡ list_kind) (HasListData v.bytes) (bytes_eq-Decides v.kind list_kind)
    (some_decides (list_in v.bytes) (HasListData v.bytes) (λ rs e. (rs, list_in_is v.bytes rs fits.bytes.each e)) (λ h. (h.0, list_in_again v.bytes h.0 h.1))))

pub admin_data_decides : (bytes : List ℕ) → AreOctets bytes → Decides (is_some (admin_in bytes)) (HasAdminData bytes)
admin_data_decides bytes each = some_decides (admin_in bytes) (HasAdminData bytes) (λ x e. (x.0, x.1, admin_in_is bytes x.0 x.1 each e)) (λ h. ((h.0, h.1), admin_in_again bytes h.0 h.1 h.2))

pub sound_decides : (v : Value) → Fits v → Decides (is_sound v) (IsSound v)
sound_decides v fits =
    let all = Decides-and _ _ (limits_decide v) (data_decides v fits) in (
      λ e. let h = all.0 e in record { limits = h.0; admin = h.1.0; list = h.1.1 },
      λ h. all.1 (h.limits, (h.admin, h.list)),
    )

-- what has a fault is not sound
faulty : (v : Value) (e : ValueFault) → IsFirstFault v e → e ≢ Memory → IsSound v → ⊥
faulty v Short f other h = f
faulty v IndexZero f other h = let some = h.limits.index in omega (arith, f, some)
faulty v TypeLong f other h = let short = h.limits.kind in omega (arith, f.1, short)
faulty v DataLong f other h = let short = h.limits.bytes in omega (arith, f.2, short)
faulty v RefsMany f other h = let few = h.limits.references in omega (arith, f.3, few)
faulty v BadAdmin f other h = f.2 (h.admin f.1)
faulty v BadList f other h = f.2 (h.list f.1)
faulty v Memory f other h = other refl

pub tested : {A : Type 0} (v : Value) (r : Result A ValueFault) → Fits v → MatchResult r (λ _. IsSound v) (λ e. IsFirstFault v e × (e ≢ Memory)) → is_ok r ≡ is_sound v
tested v (Ok x) fits h = sym ((sound_decides v fits).1 h)
tested v (Err e) fits h = sym (false_from_ne_true (is_sound v) (λ t. faulty v e h.0 h.1 ((sound_decides v fits).0 t)))
