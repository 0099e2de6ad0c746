use Rattle.std.proofs.Common.{◌≡◌, drop, map, max}
use Rattle.hdl_languages.specs.Preferred.{highest}
use Rattle.hdl_languages.proofs.language.weight_among.Given as goal

abbrev pub invariant-loop-element : goal.invariant-loop-element
invariant-loop-element l =
    max l.most (highest l.language (map (λ element. element.now) (drop l.element-index l.elements))) ≡ highest l.language (map (λ element. element.now) l.elements)
