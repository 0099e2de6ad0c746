use Rattle.std.proofs.Common.{refl, sym}
use Rattle.hdl_journal_entries.specs.declared.keys.Key.TheVariants as key
use Rattle.hdl_journal_entries.specs.Keys.{key_octets, chain_octets}
use Rattle.hdl_change_list.specs.Sequence.{Writes}
use Rattle.hdl_change_list.proofs.Sequence.{writes_as, put_first, put_second}
use Rattle.hdl_change_list.proofs.list.ChangeList.put_entry.Goals as goal

pub returns-clause-entry : goal.returns-clause-entry
returns-clause-entry g c =
    put_second (Writes (key_octets c.args.self.now.name.items (key.Entry c.args.number)) c.args.octets.items) c.push.new.self.items c.push-2.new.self.items c.drop_old.new.writes.items c.in_ok-drop_old.ensures.0
    c.put-2.result c.in_ok-push-2.ensures.items c.in_ok-drop_old.ensures.1 (writes_as c.put-2.result _ _ _ _ c.put-2.ensures c.in_ok-key-2.ensures refl)

pub returns-clause-head : goal.returns-clause-head
returns-clause-head g c =
    put_first (Writes (key_octets c.args.self.now.name.items key.Head) (chain_octets c.behind-behind.result)) c.args.writes.now.items c.push.new.self.items c.push-2.new.self.items c.drop_old.new.writes.items
    c.in_ok-drop_old.ensures.0 c.put.result c.put-2.result c.in_ok-push.ensures.items c.in_ok-push-2.ensures.items c.in_ok-drop_old.ensures.1
    (writes_as c.put.result _ _ _ _ c.put.ensures c.in_ok-key.ensures c.in_ok-head.ensures)
