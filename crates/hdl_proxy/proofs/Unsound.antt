-- A value with a fault is unsound.
use Rattle.std.proofs.Common.{◌≡◌, ◌≢◌, ◌↔◌, List, [], ◌∷◌, All, refl, sym, subst, arith}
use Rattle.std.proofs.lemmas.List.Elements.{All-nil, All-cons, All-head, All-tail}
use Rattle.hdl_value.specs.declared.value.Value.{Value}
use Rattle.hdl_value.specs.declared.fault.ValueFault.{ValueFault}
use Rattle.hdl_value.specs.declared.fault.ValueFault.TheVariants.{Short, IndexZero, TypeLong, DataLong, RefsMany, BadAdmin, BadList, Memory}
use Rattle.hdl_value.specs.Fault.{IsSound, IsFirstFault}

pub unsound : (v : Value) (e : ValueFault) → IsFirstFault v e → e ≢ Memory → ¬ (IsSound v)
unsound v Short h n = λ s. absurd h
unsound v IndexZero h n = λ s. absurd (omega (arith, h, s.limits.index))
unsound v TypeLong h n = λ s. absurd (omega (arith, h.1, s.limits.kind))
unsound v DataLong h n = λ s. absurd (omega (arith, h.2, s.limits.bytes))
unsound v RefsMany h n = λ s. absurd (omega (arith, h.3, s.limits.references))
unsound v BadAdmin h n = λ s. h.2 (s.admin h.1)
unsound v BadList h n = λ s. h.2 (s.list h.1)
unsound v Memory h n = λ s. absurd (n refl)

-- one more sound value
pub sound_more : (P : Type 0) (v : Value) (rest all : List Value) → all ≡ v ∷ rest → IsSound v → (All IsSound all ↔ P) → (All IsSound rest ↔ P)
sound_more P v rest all e s h = (
  λ r. h.0 (subst (All IsSound) (sym e) (All-cons IsSound v rest s r)),
  λ p. All-tail IsSound v rest (subst (All IsSound) e (h.1 p)),
)

-- a value that isn't sound
pub sound_none : (P : Type 0) (v : Value) (rest all : List Value) → all ≡ v ∷ rest → ¬ (IsSound v) → (All IsSound all ↔ P) → ¬ P
sound_none P v rest all e u h = λ p. u (All-head IsSound v rest (subst (All IsSound) e (h.1 p)))

-- the end
pub sound_all : (P : Type 0) (all : List Value) → all ≡ [] → (All IsSound all ↔ P) → P
sound_all P all e h = h.0 (subst (All IsSound) (sym e) (All-nil IsSound))
