use Rattle.std.proofs.Common.{ap, sym, subst, ◌∙◌}
use Rattle.hdl_rows.specs.Table.{values_of}
use Rattle.hdl_reach.specs.Reach.{grants}
use Rattle.hdl_reach.specs.Search.{IsFound}
use Rattle.hdl_reach.proofs.search.search_from.Goals as goal

pub returns-clause-search : goal.returns-clause-search
returns-clause-search c = λ t is.
    let handle = sym (c.in_ok-from_slice.ensures.items ∙ c.canon.ensures) in
    subst (λ gs. IsFound t gs c.in_ok-found.found) (is ∙ ap (λ h. grants (values_of t h)) handle) (c.in_ok-found.ensures t)
