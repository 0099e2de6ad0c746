use Rattle.hdl_tenants.specs.Register.{empty}
use Rattle.hdl_tenants.proofs.Uniqueness.{one_register}
use Rattle.hdl_tenants.proofs.laws.one_register.Goals as goal

pub returns : goal.returns
returns c = λ texts r s p q. one_register empty texts r s p q
