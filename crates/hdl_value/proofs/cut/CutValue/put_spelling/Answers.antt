use Rattle.hdl_value.specs.Cut.{value_view}
use Rattle.hdl_value.proofs.Whole.{written}
use Rattle.hdl_value.proofs.cut.CutValue.put_spelling.Goals as goal

pub returns : goal.returns
returns c =
    rw (← c.self.view_is)
    (written c.args.out.now.items _ _ _ _ _ _ _ (value_view c.self.inside.fields) c.in_ok-put_u32.ensures c.in_ok-put_string.ensures c.in_ok-put_string-2.ensures c.in_ok-extend_from_slice.ensures.items c.in_ok-push.ensures.items c.in_ok-put_u64.ensures
    c.in_ok-put_cut_references.ensures)
