use Rattle.std.proofs.Common.{refl, sym, ap, subst, ◌∙◌, ◌≡◌, ◌≤◌, length, rules, arith}
use Rattle.hdl_change_list.proofs.Sequence.{writable, is_put}
use Rattle.hdl_change_list.proofs.list.ChangeList.put_with.Goals as goal

pub write_entry-requires : goal.write_entry-requires
write_entry-requires g c =
    let short : length c.args.message.message ≤ 65536 = search rules in
    writable _ c.args.message c.in_ok-entry.ensures.changes short

pub returns-clause-put : goal.returns-clause-put
returns-clause-put g c =
    let same = c.in_ok-entry.ensures.same in
    let t = c.in_ok-text.ensures in
    let named : c.next_entry.new.self.name.items ≡ c.args.self.now.name.items = rw same.1 refl in
    is_put c.args.self.now.name.items c.next_entry.new.self.name.items c.args.self.now.chain c.next_entry.new.self.chain c.args.message c.in_ok-entry.entry _ c.in_ok-octets.octets.items c.in_ok-behind.behind
    c.put_entry.new.writes.items c.deref.result.now _ _ t.0 named same.0 c.in_ok-entry.ensures.next c.in_ok-entry.ensures.changes refl c.in_ok-octets.ensures c.in_ok-behind.ensures.behind
    c.in_ok-behind.ensures.entry c.in_ok-behind.ensures.head c.deref.ensures.value t.1 t.2
