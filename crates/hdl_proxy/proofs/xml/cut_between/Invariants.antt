use Rattle.std.proofs.Common.{◌≡◌, ◌⊎◌, ℕ, List, ◌++◌}
use Rattle.std.specs.List.{AllByRecursion, AllPass, concat}
use Rattle.hdl_proxy.specs.Xml.{IsComment, is_blank}
use Rattle.hdl_proxy.proofs.xml.cut_between.Given as goal

abbrev pub invariant-loop : goal.invariant-loop
invariant-loop l = (pieces : List (List ℕ)) × AllByRecursion (λ piece. AllPass is_blank piece ⊎ IsComment piece) pieces × (l.text ≡ concat pieces ++ l.rest)
