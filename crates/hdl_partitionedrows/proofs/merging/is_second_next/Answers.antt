use Rattle.std.proofs.Common.{refl, ap, ◌∙◌}
use Rattle.std.specs.Ordering.{is_lt, is_some_and}
use Rattle.std.specs.Cmp.Lexicographic.{lists_agrees}
use Rattle.hdl_value.specs.Place.{handle_cmp}
use Rattle.hdl_partitionedrows.proofs.Steps.{heads_taken}
use Rattle.hdl_partitionedrows.proofs.merging.is_second_next.Goals as goal

pub returns-in-Some-Some : goal.returns-in-Some-Some
returns-in-Some-Some c =
    let some = c.in-Some-Some in
    c.lt.ensures
    ∙ ap (is_some_and is_lt) (lists_agrees (λ x y. refl) c.as_slice.result.now c.as_slice-in-Some-Some.result.now)
    ∙ (λ i. is_lt (handle_cmp (c.as_slice.ensures i) (c.as_slice-in-Some-Some.ensures i)))
    ∙ heads_taken c.args.first.now.items c.args.second.now.items _ _ some.name.now some.other.now c.args.first.now.ok.0 c.args.second.now.ok.0 (some.ensures.variant.0 refl) (some.ensures'.variant.0 refl) some.ensures.lookup some.ensures'.lookup
