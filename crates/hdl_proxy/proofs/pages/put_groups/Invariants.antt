use Rattle.std.proofs.Common.{◌≡◌, ℕ, List, ◌++◌}
use Rattle.hdl_proxy.proofs.Sections.{IsFront}
use Rattle.hdl_proxy.proofs.pages.put_groups.Given as goal

abbrev pub invariant-loop-value : goal.invariant-loop-value
invariant-loop-value l =
    (l.place ≡ l.value-index) × ((part : List ℕ) × IsFront l.language l.are_urls l.values l.value-index part × (l.page.octets.items ≡ l.fn.page.octets.items ++ part))
