use Rattle.std.proofs.Common.{◌≡◌, ℕ, List, ◌++◌}
use Rattle.std.specs.Prelude.{codes}
use Rattle.std.specs.List.{AllByRecursion, concat}
use Rattle.hdl_proxy.specs.Xml.{IsInComment}
use Rattle.hdl_proxy.proofs.xml.cut_comment.Given as goal

abbrev pub invariant-loop : goal.invariant-loop
invariant-loop l = (pieces : List (List ℕ)) × AllByRecursion IsInComment pieces × (l.text ≡ codes "<!--" ++ (concat pieces ++ l.rest))
