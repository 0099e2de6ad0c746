use Rattle.std.proofs.Common.{sym, ◌∙◌}
use Rattle.hdl_tenants.proofs.Informed.{some_informed, none_informed}
use Rattle.hdl_tenants.proofs.sites.Sites.add.Goals as goal

pub returns-then-is_some-clause-fault : goal.returns-then-is_some-clause-fault
returns-then-is_some-clause-fault c = some_informed c.args.self.now c.args.publisher c.of.result c.of.ensures (sym c.is_some.ensures ∙ c.if-is_some.true)

pub returns-clause-absent : goal.returns-clause-absent
returns-clause-absent c = none_informed c.args.self.now c.args.publisher c.of.result c.of.ensures (sym c.is_some.ensures ∙ c.if-is_some.false)
