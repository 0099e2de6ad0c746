use Rattle.std.proofs.Common.{◌∙◌, false, option_map, refl, sym, ap}
use Rattle.hdl_value.specs.Refs.{place_of}
use Rattle.hdl_reach.specs.Found.{mark, known_at}
use Rattle.hdl_reach.proofs.Raises.{found_known, settle_known, settle_none}
use Rattle.hdl_reach.proofs.found.Found.settle.Goals as goal

pub returns-in_default-clause-known : goal.returns-in_default-clause-known
returns-in_default-clause-known c =
    let was = found_known c.args.self.now c.args.here.now c.in_ok-key.key c.copied.result c.in_ok-key.ensures (c.copied.ensures ∙ c.get.ensures.value) in
    settle_none (known_at c.args.self.now) (place_of c.args.here.now) (sym was ∙ ap (option_map mark) c.in_default.is)

pub returns-clause-known : goal.returns-clause-known
returns-clause-known c =
    let was = found_known c.args.self.now c.args.here.now c.in_ok-key.key c.copied.result c.in_ok-key.ensures (c.copied.ensures ∙ c.get.ensures.value) in
    settle_known c.args.self.now (record { known = c.insert.new.self; waiting = c.args.self.now.waiting }) c.args.here.now c.in_ok-key.key c.in-Some.known (record { mask = c.in-Some.known.mask; waits = false })
    c.in_ok-key.ensures c.in_ok-insert.ensures.updates (sym (ap (option_map mark) c.in-Some.is) ∙ was) refl
