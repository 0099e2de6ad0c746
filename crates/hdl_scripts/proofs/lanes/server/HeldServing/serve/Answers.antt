use Rattle.std.proofs.Common.{All, subst, sym}
use Rattle.hdl_workers.specs.Ends.{AreDistinct}
use Rattle.hdl_scripts.specs.Same.{IsEach}
use Rattle.hdl_scripts.proofs.lanes.server.HeldServing.serve.Goals as goal

pub serve_lanes-served-requires : goal.serve_lanes-served-requires
serve_lanes-served-requires g c = subst (λ v. AreDistinct v.items) (sym c.replace-ends.ensures.value) c.requires

pub returns-in_default : goal.returns-in_default
returns-in_default g c = record { distinct = c.requires; same = λ firsts all. all }

pub returns : goal.returns
returns g c = record {
  distinct = c.serve_lanes-served.ensures.distinct;
  same = λ firsts all. c.serve_lanes-served.ensures.same firsts (subst (λ v. All (IsEach firsts) v.items) (sym c.replace-ends.ensures.value) all);
}
