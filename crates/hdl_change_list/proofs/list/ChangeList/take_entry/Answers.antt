use Rattle.std.proofs.Common.{sym, ap, ◌∙◌, arith}
use Rattle.hdl_journal_entries.specs.Chain.{after_entry}
use Rattle.hdl_change_list.proofs.Sequence.{read_whole}
use Rattle.hdl_change_list.proofs.list.ChangeList.take_entry.Goals as goal

pub returns-in-Next : goal.returns-in-Next
returns-in-Next g c =
    let whole = read_whole c.entry_read_as_spelt.ensures c.args.octets.now c.in_ok-entry.entry (λ i. omega (arith, c.type_inv.octets i)) c.in_ok-entry.ensures.read in
    (sym c.place_of.ensures ∙ c.in-Next.is, c.behind-behind.ensures ∙ ap (after_entry c.in_ok-entry.entry.number) whole)
