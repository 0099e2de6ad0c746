use Rattle.std.proofs.Common.{◌+◌, ℕ, sym, ap, ◌∙◌}
use Rattle.hdl_tenants.specs.Register.{empty}
use Rattle.hdl_tenants.proofs.Uniqueness.{one_place}
use Rattle.hdl_tenants.proofs.laws.one_first_fault.Goals as goal

pub returns : goal.returns
returns c = λ texts n m e f a b ne nf.
    let one = one_place empty a.front b.front a.text b.text a.back b.back a.before b.before e f (sym a.split ∙ b.split) a.accepted b.accepted a.fault_there b.fault_there ne nf in
    (a.number ∙ ap (λ (k : ℕ). k + 1) one.0 ∙ sym b.number, one.1)
