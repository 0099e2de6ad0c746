use Rattle.std.proofs.Common.{◌≡◌, ◌++◌, take}
use Rattle.std.specs.List.{flat_map}
use Rattle.hdl_value.specs.Refs.{raw}
use Rattle.hdl_proxy.specs.Pages.{reference_part}
use Rattle.hdl_proxy.proofs.value_data.put_list.Given as goal

abbrev pub invariant-loop-reference : goal.invariant-loop-reference
invariant-loop-reference l =
    l.page.octets.items ≡ l.fn.page.octets.items ++ flat_map (λ r. reference_part (raw r)) (take l.reference-index l.references)
