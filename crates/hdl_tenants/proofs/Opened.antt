-- Whether a value may follow what stands before it.
use Rattle.std.proofs.Common.{◌≡◌, ◌<◌, List, ℕ, map, Contains, arith, sym, ap, subst, ◌∙◌, inl, inr}
use Rattle.hdl_name.specs.Name.{IsHandle, canonical, prefix}
use Rattle.hdl_value.specs.declared.value.Value.{Value}
use Rattle.hdl_tenants.specs.declared.fault.TenantFault.{TenantFault}
use Rattle.hdl_tenants.specs.declared.fault.TenantFault.TheVariants.{BadLine, TwicePrefix, TwicePublisher, TwiceSite, TooMany, Memory}
use Rattle.hdl_limits.specs.declared.TheConstants.{VALUES_MAX}
use Rattle.hdl_tenants.specs.Register.{Register, prefixes_of, place, value_count}
use Rattle.hdl_tenants.specs.Lines.{IsValueText}
use Rattle.hdl_tenants.specs.Text.{IsKnownRow}
use Rattle.hdl_tenants.specs.Taken.{count_at}
use Rattle.hdl_tenants.specs.Steps.{IsPlaceFault, IsOpenedFault}
use Rattle.hdl_tenants.proofs.Texts.{one_text}
use Rattle.hdl_tenants.proofs.Places.{count_at-places}

module _ (r : Register) (handle digits : List ℕ) (v : Value) (name canon : List ℕ) (same : name ≡ handle) (canon_is : canon ≡ canonical name) where
  canon_of : canon ≡ canonical handle
  canon_of = canon_is ∙ ap canonical same

  count_is : count_at canon (map place r.opening) ≡ value_count (canonical handle) r.opening
  count_is = count_at-places canon r.opening ∙ ap (λ (h : List ℕ). value_count h r.opening) canon_of

  taken : Contains (map place r.opening) (record { handle = canon; index = v.index }) → IsValueText digits v → (w : Value) → IsHandle handle → IsValueText digits w → IsKnownRow r (handle, w) → ⊥
  taken there text w named other known =
      known.once (subst (λ (x : Value). Contains (map place r.opening) (place (handle, x))) (one_text digits v w text other)
      (subst (λ (h : List ℕ). Contains (map place r.opening) (record { handle = h; index = v.index })) canon_of there))

  pub from_place : (e : TenantFault) → IsPlaceFault (map place r.opening) (record { handle = canon; index = v.index }) e → IsValueText digits v → IsOpenedFault r handle digits e
  from_place BadLine (inl there) text = λ w named other known. taken there text w named other known
  from_place BadLine (inr many) text = λ w named other known. absurd (omega (arith, many, count_is, known.room))
  from_place Memory f text = tt
  from_place TwicePrefix f text = absurd f
  from_place TwicePublisher f text = absurd f
  from_place TwiceSite f text = absurd f
  from_place TooMany f text = absurd f

  pub known_row : (before : List ℕ) → before ≡ prefix name → Contains (prefixes_of r.hostings) before → (Contains (map place r.opening) (record { handle = canon; index = v.index }) → ⊥) → count_at canon (map place r.opening) < VALUES_MAX → IsKnownRow r (handle, v)
  known_row before is there new room = record {
    hosted = subst (λ p. Contains (prefixes_of r.hostings) p) (is ∙ ap prefix same) there;
    once = λ old. new (subst (λ (h : List ℕ). Contains (map place r.opening) (record { handle = h; index = v.index })) (sym canon_of) old);
    room = omega (arith, room, count_is);
  }
