use Rattle.std.proofs.Common.{◌≡◌, ℕ, List, ◌++◌, filter, take}
use Rattle.hdl_proxy.specs.Pages.{IsSections, is_put}
use Rattle.hdl_proxy.proofs.pages.put_sections.Given as goal

abbrev pub invariant-loop-value : goal.invariant-loop-value
invariant-loop-value l =
    (part : List ℕ) × IsSections l.language (filter (is_put l.are_urls) (take l.value-index l.values)) part × (l.page.octets.items ≡ l.fn.page.octets.items ++ part)
