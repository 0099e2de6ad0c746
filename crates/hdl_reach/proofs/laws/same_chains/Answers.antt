use Rattle.hdl_reach.proofs.Agreement.{path_agrees, path_agreed}
use Rattle.hdl_reach.proofs.laws.same_chains.Goals as goal

pub returns : goal.returns
returns c = λ t u ps onward agree r k here. ((λ chain. (chain.0, path_agrees t u ps onward agree r chain.0 k here chain.1)), (λ chain. (chain.0, path_agreed t u ps onward agree r chain.0 k here chain.1)))
