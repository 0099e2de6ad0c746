use Rattle.std.proofs.Common.{refl, inl, inr}
use Rattle.std.specs.Prelude.{codes}
use Rattle.hdl_proxy.proofs.xml.read_entity.Goals as goal

pub returns-in-Some : goal.returns-in-Some
returns-in-Some c = (codes "&amp;", (inl (refl, refl), c.in-Some.ensures.found))

pub returns-in-Some-after : goal.returns-in-Some-after
returns-in-Some-after c = (codes "&lt;", (inr (inl (refl, refl)), c.in-Some-after.ensures.found))

pub returns-in-Some-after-2 : goal.returns-in-Some-after-2
returns-in-Some-after-2 c = (codes "&gt;", (inr (inr (inl (refl, refl))), c.in-Some-after-2.ensures.found))

pub returns-in-Some-after-3 : goal.returns-in-Some-after-3
returns-in-Some-after-3 c = (codes "&quot;", (inr (inr (inr (inl (refl, refl)))), c.in-Some-after-3.ensures.found))

pub returns-in-Some-after-4 : goal.returns-in-Some-after-4
returns-in-Some-after-4 c = (codes "&apos;", (inr (inr (inr (inr (inl (refl, refl))))), c.in-Some-after-4.ensures.found))
