use Rattle.std.proofs.Common.{◌≡◌, ℕ, List, ◌++◌, filter, take}
use Rattle.hdl_proxy.specs.Choice.{is_of}
use Rattle.hdl_proxy.specs.Pages.{IsSections}
use Rattle.hdl_proxy.proofs.pages.put_of_type.Given as goal

abbrev pub invariant-loop-value : goal.invariant-loop-value
invariant-loop-value l =
    (part : List ℕ) × IsSections l.language (filter (is_of l.kind) (take l.value-index l.values)) part × (l.page.octets.items ≡ l.fn.page.octets.items ++ part)
