use Rattle.std.proofs.Common.{ap, ◌∙◌}
use Rattle.hdl_laws.specs.Worlds.{read_only}
use Rattle.hdl_core.specs.Machine.{Machine}
use Rattle.hdl_core.specs.declared.service.Service.TheInside.{Inside}
use Rattle.hdl_core.proofs.Opened.{world_read_only}
use Rattle.hdl_core.proofs.service.Service.into_read_only.Goals as goal

pub returns-clause-world : goal.returns-clause-world
returns-clause-world g c = world_read_only _ _ _ _ ∙ ap (λ (s : Inside _). read_only s.machine.world) c.self-inside.view_is ∙ ap (λ (m : Machine _). read_only m.world) c.self.view_is
