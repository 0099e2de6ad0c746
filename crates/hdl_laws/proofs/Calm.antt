-- A run in which no other publisher's event changes the table is quiet.
use Rattle.std.proofs.Common.{[], ◌∷◌, refl, sym, subst}
use Rattle.hdl_laws.specs.Worlds.{hosts}
use Rattle.hdl_laws.specs.Isolation.{Agrees}
use Rattle.hdl_laws.specs.Laws.{CalmIsQuiet}

pub calm_is_quiet : CalmIsQuiet
calm_is_quiet s u C w [] calm = tt
calm_is_quiet s u C w (t ∷ ts) calm = (
  λ other. subst (λ x. Agrees (hosts s u) C w.table x) (sym (calm.0 other)) (record { handles = λ h e. refl; rows = λ p e. refl; covered = λ p e. refl }),
  calm_is_quiet s u C t.after ts calm.1,
)
