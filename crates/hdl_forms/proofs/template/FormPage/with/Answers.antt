use Rattle.std.proofs.Common.{rules}
use Rattle.hdl_forms.proofs.Made.{made_more}
use Rattle.hdl_forms.proofs.template.FormPage.with.Goals as goal

pub invariant_of-result : goal.invariant_of-result
invariant_of-result c = made_more c.self.inside.octets.items _ c.args.template c.args.texts.list.items c.self.invariant (search rules)
