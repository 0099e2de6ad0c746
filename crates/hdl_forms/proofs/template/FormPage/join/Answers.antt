use Rattle.std.proofs.Common.{rules}
use Rattle.hdl_forms.proofs.Made.{made_both}
use Rattle.hdl_forms.proofs.template.FormPage.join.Goals as goal

pub invariant_of-result : goal.invariant_of-result
invariant_of-result c = made_both c.self.inside.octets.items c.part.inside.octets.items _ c.self.invariant c.part.invariant (search rules)
