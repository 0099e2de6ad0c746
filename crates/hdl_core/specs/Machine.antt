-- What a contract sees of a machine, and of a service.
use Rattle.std.specs.Prelude.{refl}
use Rattle.std.specs.Coded.{Coded, code_by, coded×}
use Rattle.hdl_laws.specs.Worlds.{World}

-- its world, and its table
pub record Machine (R : Type 0) : Type 0 where
  pub world : World
  pub rows : R

abbrev pub machine_code : {R : Type 0} → Coded World → Coded R → Coded (Machine R)
machine_code {R} world rows = code_by (World × R) (coded× world rows) (λ m. (m.world, m.rows)) (λ p. record { world = p.0; rows = p.1 }) (λ _. refl)
