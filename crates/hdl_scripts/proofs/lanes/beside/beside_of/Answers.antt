use Rattle.hdl_scripts.proofs.Same.{one_distinct, one_each}
use Rattle.hdl_scripts.proofs.lanes.beside.beside_of.Goals as goal

pub invariant_of-result : goal.invariant_of-result
invariant_of-result g c = record {
  distinct = one_distinct c.args.lanes.items c.requires.one;
  same = one_each _ c.args.lanes.items c.requires.made c.requires.one;
}
