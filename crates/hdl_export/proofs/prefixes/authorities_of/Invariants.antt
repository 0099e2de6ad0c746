use Rattle.std.proofs.Common.{◌∷◌, map, take, codes}
use Rattle.hdl_export.specs.Prefixes.{AreAmong}
use Rattle.hdl_export.proofs.prefixes.authorities_of.Given as goal

abbrev pub invariant-loop-prefix : goal.invariant-loop-prefix
invariant-loop-prefix l = AreAmong (codes "0.na" ∷ map (λ p. p.now) (take l.prefix-index l.prefixes)) (map (λ a. a.now) l.all.items)
