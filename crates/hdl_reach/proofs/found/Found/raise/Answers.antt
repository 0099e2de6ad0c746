use Rattle.std.proofs.Common.{◌≡◌, ◌∙◌, ◌∷◌, [], Some, option_map, subst}
use Rattle.hdl_value.specs.Refs.{place_of}
use Rattle.hdl_reach.specs.declared.found.Found.{Found}
use Rattle.hdl_reach.specs.Found.{mark, known_at, waits, raised}
use Rattle.hdl_reach.proofs.Raises.{found_known, raised_none, raise_known, raise_noted, raise_gains}
use Rattle.hdl_reach.proofs.Looks.{adds_itself, raise_adds}
use Rattle.hdl_reach.proofs.found.Found.raise.Goals as goal

pub returns-in_default-clause-known : goal.returns-in_default-clause-known
returns-in_default-clause-known c =
    let was = found_known c.args.self.now c.args.one.now c.in_ok-key.key c.copied-before.result c.in_ok-key.ensures (c.copied-before.ensures ∙ c.get.ensures.value) in
    raised_none (known_at c.args.self.now) (place_of c.args.one.now) c.args.mask.0 (subst (λ o. o ≡ Some (raised o c.args.mask.0)) was c.in_default.ensures)

pub returns-clause-known : goal.returns-clause-known
returns-clause-known c =
    let was = found_known c.args.self.now c.args.one.now c.in_ok-key.key c.copied-before.result c.in_ok-key.ensures (c.copied-before.ensures ∙ c.get.ensures.value) in
    raise_known c.args.self.now c.wait.new.self (record { known = c.insert.new.self; waiting = c.wait.new.self.waiting }) c.args.one.now c.in_ok-key.key c.copied-before.result c.in-Some.after c.args.mask.0
    c.in_ok-key.ensures c.in_ok-wait.ensures.known c.in_ok-insert.ensures.updates was c.in-Some.ensures.0

pub returns-clause-waiting : goal.returns-clause-waiting
returns-clause-waiting c =
    let was = found_known c.args.self.now c.args.one.now c.in_ok-key.key c.copied-before.result c.in_ok-key.ensures (c.copied-before.ensures ∙ c.get.ensures.value) in
    raise_noted c.args.self.now c.wait.new.self (record { known = c.insert.new.self; waiting = c.wait.new.self.waiting }) c.args.one.now c.in_ok-key.key c.copied-before.result c.in-Some.after
    c.in_ok-key.ensures c.in_ok-wait.ensures.known c.in_ok-insert.ensures.updates was c.in_ok-wait.ensures.waiting

pub returns-clause-gained : goal.returns-clause-gained
returns-clause-gained c =
    let was = found_known c.args.self.now c.args.one.now c.in_ok-key.key c.copied-before.result c.in_ok-key.ensures (c.copied-before.ensures ∙ c.get.ensures.value) in
    raise_gains c.args.self.now c.wait.new.self (record { known = c.insert.new.self; waiting = c.wait.new.self.waiting }) c.args.one.now c.in_ok-key.key c.copied-before.result c.in-Some.after
    c.in_ok-key.ensures c.in_ok-wait.ensures.known c.in_ok-insert.ensures.updates was c.in-Some.ensures.1

pub returns-in_default-clause-left : goal.returns-in_default-clause-left
returns-in_default-clause-left c = adds_itself c.args.self.now (place_of c.args.one.now ∷ [])

pub returns-clause-left : goal.returns-clause-left
returns-clause-left c =
    let was = found_known c.args.self.now c.args.one.now c.in_ok-key.key c.copied-before.result c.in_ok-key.ensures (c.copied-before.ensures ∙ c.get.ensures.value) in
    let new : Found = record { known = c.insert.new.self; waiting = c.wait.new.self.waiting } in
    raise_adds c.args.self.now c.wait.new.self new c.args.one.now c.in_ok-key.key c.copied-before.result c.in-Some.after c.args.mask.0 (waits (option_map mark c.copied-before.result))
    c.in_ok-key.ensures c.in_ok-wait.ensures.known c.in_ok-insert.ensures.updates was c.in-Some.ensures.1
    (raise_known c.args.self.now c.wait.new.self new c.args.one.now c.in_ok-key.key c.copied-before.result c.in-Some.after c.args.mask.0 c.in_ok-key.ensures c.in_ok-wait.ensures.known c.in_ok-insert.ensures.updates was c.in-Some.ensures.0)
    c.in_ok-wait.ensures.waiting
