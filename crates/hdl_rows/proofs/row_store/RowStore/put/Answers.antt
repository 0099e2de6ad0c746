use Rattle.std.proofs.Common.{◌∙◌, ap, sym, is_some, true≢false}
use Rattle.std.specs.Option.{option_copied_mut}
use Rattle.hdl_rows.proofs.Changes.{has_is, found_rises, put_is}
use Rattle.hdl_rows.proofs.row_store.RowStore.put.Goals as goal

pub put_copies-requires : goal.put_copies-requires
put_copies-requires c = record { ordered = found_rises c.self.inside.rows.entries c.args.name.now c.in-Some.all.now c.self.invariant (sym c.get_mut.ensures.value ∙ ap option_copied_mut c.in-Some.is) }

pub unreachable-requires : goal.unreachable-requires
unreachable-requires c = true≢false (sym c.requires.there ∙ sym (has_is c.args.self.now c.self.inside.rows.entries c.args.name.now c.self.view_is) ∙ ap is_some (sym c.get_mut.ensures.value ∙ ap option_copied_mut c.in-None.is))

pub invariant_of-self : goal.invariant_of-self
invariant_of-self c = (put_is c.put_copies.result c.args.self.now c.self.inside.rows.entries (c.get_mut.follows.lender c.put_copies.new.values).entries c.args.name.now c.in-Some.all.now c.put_copies.new.values c.args.values.now c.self.view_is c.self.invariant (sym c.get_mut.ensures.value ∙ ap option_copied_mut c.in-Some.is) (c.get_mut.follows.holds c.put_copies.new.values).0 c.put_copies.ensures.done c.put_copies.ensures.undone).0

pub returns-clause-done : goal.returns-clause-done
returns-clause-done c = (put_is c.put_copies.result c.args.self.now c.self.inside.rows.entries (c.get_mut.follows.lender c.put_copies.new.values).entries c.args.name.now c.in-Some.all.now c.put_copies.new.values c.args.values.now c.self.view_is c.self.invariant (sym c.get_mut.ensures.value ∙ ap option_copied_mut c.in-Some.is) (c.get_mut.follows.holds c.put_copies.new.values).0 c.put_copies.ensures.done c.put_copies.ensures.undone).1

pub returns-clause-undone : goal.returns-clause-undone
returns-clause-undone c = (put_is c.put_copies.result c.args.self.now c.self.inside.rows.entries (c.get_mut.follows.lender c.put_copies.new.values).entries c.args.name.now c.in-Some.all.now c.put_copies.new.values c.args.values.now c.self.view_is c.self.invariant (sym c.get_mut.ensures.value ∙ ap option_copied_mut c.in-Some.is) (c.get_mut.follows.holds c.put_copies.new.values).0 c.put_copies.ensures.done c.put_copies.ensures.undone).2
