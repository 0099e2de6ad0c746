use Rattle.std.proofs.Common.{subst}
use Rattle.hdl_reach.specs.Cost.{ReadsWithin}
use Rattle.hdl_ops.specs.Cost.{anyone_cost, proof_cost}
use Rattle.hdl_laws.specs.Cost.{IsStranger}
use Rattle.hdl_laws.specs.Worlds.{lane_of}
use Rattle.hdl_laws.specs.Runs.{HasStep}
use Rattle.hdl_core.specs.Machine.{Machine}
use Rattle.hdl_core.proofs.service.Service.step.Goals as goal

pub returns-clause-step : goal.returns-clause-step
returns-clause-step g c = subst (λ (m : Machine _). HasStep m.world c.args.event c.step.result.outcome c.step.new.self.world) c.self.view_is c.step.ensures.step

pub returns-clause-cost : goal.returns-clause-cost
returns-clause-cost g c = subst (λ (m : Machine _). ReadsWithin m.world.table proof_cost (g.R.Rows.reads m.rows) (g.R.Rows.reads c.step.new.self.rows)) c.self.view_is c.step.ensures.cost

pub returns-clause-stranger : goal.returns-clause-stranger
returns-clause-stranger g c = subst (λ (m : Machine _). IsStranger (lane_of m.world c.args.event.lane) c.args.event.what → ReadsWithin m.world.table anyone_cost (g.R.Rows.reads m.rows) (g.R.Rows.reads c.step.new.self.rows)) c.self.view_is c.step.ensures.stranger
