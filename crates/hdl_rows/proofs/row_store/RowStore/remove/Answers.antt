use Rattle.std.proofs.Common.{◌∙◌, ap, sym, is_some, true≢false}
use Rattle.std.specs.Option.{option_copied_mut}
use Rattle.hdl_rows.proofs.Changes.{has_is, written_over, removed_is}
use Rattle.hdl_rows.proofs.row_store.RowStore.remove.Goals as goal

pub unreachable-requires : goal.unreachable-requires
unreachable-requires c = true≢false (sym c.requires.there ∙ sym (has_is c.args.self.now c.self.inside.rows.entries c.args.name.now c.self.view_is) ∙ ap is_some (sym c.get_mut.ensures.value ∙ ap option_copied_mut c.in-None.is))

pub invariant_of-self : goal.invariant_of-self
invariant_of-self c = (removed_is _ _ _ _ _ _ c.args.indexes.now (written_over c.args.self.now c.self.inside.rows.entries (c.get_mut.follows.lender c.remove_indexes.new.values).entries c.args.name.now c.in-Some.all.now c.remove_indexes.new.values c.self.view_is c.self.invariant (sym c.get_mut.ensures.value ∙ ap option_copied_mut c.in-Some.is) (c.get_mut.follows.holds c.remove_indexes.new.values).0) c.remove_indexes.ensures).0

pub returns : goal.returns
returns c = (removed_is _ _ _ _ _ _ c.args.indexes.now (written_over c.args.self.now c.self.inside.rows.entries (c.get_mut.follows.lender c.remove_indexes.new.values).entries c.args.name.now c.in-Some.all.now c.remove_indexes.new.values c.self.view_is c.self.invariant (sym c.get_mut.ensures.value ∙ ap option_copied_mut c.in-Some.is) (c.get_mut.follows.holds c.remove_indexes.new.values).0) c.remove_indexes.ensures).1
