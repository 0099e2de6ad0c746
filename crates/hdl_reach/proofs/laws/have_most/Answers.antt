use Rattle.hdl_reach.proofs.Most.{all_have_most}
use Rattle.hdl_reach.proofs.laws.have_most.Goals as goal

pub returns : goal.returns
returns c = all_have_most
