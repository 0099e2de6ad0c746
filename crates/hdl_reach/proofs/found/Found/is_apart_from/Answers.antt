use Rattle.std.proofs.Common.{◌∙◌, ◌++◌, ◌∷◌, [], refl, ap, sym}
use Rattle.std.specs.Ordering.{nat_cmp}
use Rattle.hdl_name.specs.Name.{canonical}
use Rattle.hdl_reach.proofs.Ranges.{none_of, nothing, forward}
use Rattle.hdl_reach.proofs.found.Found.is_apart_from.Goals as goal

pub range-requires : goal.range-requires
range-requires c =
    forward c.in_ok-from_slice.field-0.items c.push.new.self.items (nat_cmp 0 0) (c.in_ok-push.ensures.items ∙ ap (λ hs. hs ++ 0 ∷ []) (c.in_ok-next.ensures.items ∙ c.canon-2.ensures ∙ sym (c.in_ok-from_slice.ensures.items ∙ c.canon.ensures)))

pub returns : goal.returns
returns c = λ none.
    none_of c.args.self.now (canonical c.args.name.now) (c.in_ok-from_slice.field-0, 0) (c.push.new.self, 0) c.range.result (c.in_ok-from_slice.ensures.items ∙ c.canon.ensures) refl
    (c.in_ok-push.ensures.items ∙ ap (λ hs. hs ++ 0 ∷ []) (c.in_ok-next.ensures.items ∙ c.canon-2.ensures)) (c.range.ensures.in_range tt) (nothing _ _ _ c.next.result c.is_none.result c.is_none.ensures none c.next.ensures.steps)
