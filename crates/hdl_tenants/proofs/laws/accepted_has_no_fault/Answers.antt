use Rattle.std.proofs.Common.{List, ℕ, subst}
use Rattle.hdl_tenants.specs.Register.{empty}
use Rattle.hdl_tenants.specs.Text.{AddsAll}
use Rattle.hdl_tenants.proofs.Uniqueness.{no_fault_among}
use Rattle.hdl_tenants.proofs.laws.accepted_has_no_fault.Goals as goal

pub returns : goal.returns
returns c = λ texts r n fault all first.
    no_fault_among empty first.front first.text first.back first.before r fault (subst (λ (xs : List (List ℕ)). AddsAll empty xs r) first.split all) first.accepted first.fault_there
