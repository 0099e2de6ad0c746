-- The places of a table's values, and the order of places.
use Rattle.std.specs.Prelude.{ℕ, List, Bool, refl}
use Rattle.std.specs.declared.cmp.Ordering.{Ordering}
use Rattle.std.specs.Ordering.{nat_cmp, then_cmp, on, eq_by_cmp}
use Rattle.std.specs.Cmp.Lexicographic.{slice_cmp}
use Rattle.std.specs.Coded.{Coded, code_by, coded×, coded_ℕ, coded_list}

-- a handle in canonical form, and the index of a value of it
pub record Place : Type 0 where
  pub handle : List ℕ
  pub index : ℕ

-- handles rise by their octets
abbrev pub handle_cmp : List ℕ → List ℕ → Ordering
handle_cmp = slice_cmp nat_cmp

-- places rise by handle, and those of one handle by index
abbrev pub place_cmp : Place → Place → Ordering
place_cmp = then_cmp (on (λ p. p.handle) handle_cmp) (on (λ p. p.index) nat_cmp)

-- the tests of equality that these orders make
abbrev pub same_handle : List ℕ → List ℕ → Bool
same_handle g h = eq_by_cmp handle_cmp g h

abbrev pub same_place : Place → Place → Bool
same_place p q = eq_by_cmp place_cmp p q

-- places are data: a handle's octets and a number
abbrev pub handle_code : Coded (List ℕ)
handle_code = coded_list coded_ℕ

abbrev pub place_code : Coded Place
place_code = code_by (List ℕ × ℕ) (coded× handle_code coded_ℕ) (λ p. (p.handle, p.index)) (λ x. record { handle = x.0; index = x.1 }) (λ _. refl)
