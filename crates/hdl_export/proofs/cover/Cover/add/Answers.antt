use Rattle.std.proofs.Common.{◌≡◌, ◌∷◌, [], ◌++◌, rules}
use Rattle.std.specs.BTreeSet.{contains}
use Rattle.hdl_reach.specs.Seen.{key_cmp}
use Rattle.hdl_export.proofs.Kept.{adds_new, absent_key}
use Rattle.hdl_export.proofs.cover.Cover.add.Goals as goal

pub returns-in_ok-push-clause-kept : goal.returns-in_ok-push-clause-kept
returns-in_ok-push-clause-kept c =
    let absent = absent_key c.in_ok-insert.field-0 (contains key_cmp c.args.self.now.keys c.in_ok-key.key) c.in_ok-insert.ensures.added c.if-branch.true in
    let pushed : c.push.new.self.items ≡ c.args.self.now.references.items ++ c.args.one.now ∷ [] = search rules in
    (adds_new c.args.self.now (record { references = c.push.new.self; keys = c.insert.new.self }) c.args.one.now c.in_ok-key.key c.requires.kept c.in_ok-key.ensures absent c.in_ok-insert.ensures.updates pushed).1
