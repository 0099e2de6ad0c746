use Rattle.std.proofs.Common.{ap, sym, subst, ◌∙◌, length, rules}
use Rattle.hdl_serve.specs.Rounds.{IsServing}
use Rattle.hdl_serve.proofs.Lanes.{same_flags, new_flags, written_back}
use Rattle.hdl_serve.proofs.serving.round.Goals as goal

pub returns-clause-serving : goal.returns-clause-serving
returns-clause-serving g c = λ w before changes h.
    let flags = new_flags c.args.ended.now.items c.resize.new.self.items c.args.ended.now.len (length c.args.lanes.now) c.args.ended.now.ok.0 c.resize.ensures.by_index.0 (λ k d. c.resize.ensures.by_index.1 k d (search rules)) in
    let sized = same_flags w c.args.machine.now.world before c.args.lanes.now changes c.args.ended.now.items c.resize.new.self.items flags h in
    let lent = subst (λ now. IsServing w before changes c.args.machine.now.world c.args.lanes.now now) (sym c.as_mut_slice.ensures.value) sized in
    let back = written_back c.resize.new.self.items c.serve_round.new.ended c.resize.new.self.len (search rules) (c.serve_round.auto.ended ∙ ap length c.as_mut_slice.ensures.value) in
    subst (λ now. IsServing w before changes c.serve_round.new.machine.world c.serve_round.new.lanes now) (sym back) (c.serve_round.ensures.serving w before changes lent)
