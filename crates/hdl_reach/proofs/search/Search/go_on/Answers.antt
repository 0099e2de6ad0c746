use Rattle.std.proofs.Common.{◌∙◌, ◌<◌, arith, inr, refl, subst}
use Rattle.hdl_rows.specs.Table.{Table}
use Rattle.hdl_reach.specs.declared.search.Search.{Search}
use Rattle.hdl_reach.specs.Cost.{ReadsWithin, value_cost}
use Rattle.hdl_reach.specs.Search.{IsSearch}
use Rattle.hdl_reach.specs.Looks.{looks_left}
use Rattle.hdl_reach.proofs.Costs.{search_read, search_ended}
use Rattle.hdl_reach.proofs.Looks.{left_next}
use Rattle.hdl_reach.proofs.Steps.{further_next}
use Rattle.hdl_reach.proofs.search.Search.go_on.Goals as goal

pub returns-then-left-octets-clause-further : goal.returns-then-left-octets-clause-further
returns-then-left-octets-clause-further g c =
    let new : Search = record { handle = c.pass.new.self.handle; found = c.pass.new.self.found; looked_up = c.saturating_add.result } in
    inr (further_next c.args.self c.loop-alloc.self c.pass.new.self new c.loop-alloc.invariant.further c.in_ok-octets.ensures.further refl)

pub loop-alloc-preserved : goal.loop-alloc-preserved
loop-alloc-preserved g c =
    let new : Search = record { handle = c.pass.new.self.handle; found = c.pass.new.self.found; looked_up = c.saturating_add.result } in
    record {
      same = c.pass.ensures.unchanged ∙ c.loop-alloc.invariant.same;
      answered = c.in_ok-octets.ensures.count.0 ∙ c.loop-alloc.invariant.answered;
      read = omega (arith, c.loop-alloc.invariant.read, c.in_ok-octets.ensures.read, c.if-left-octets.false);
      search = subst (λ (t : Table). IsSearch t new) c.loop-alloc.invariant.same c.in_ok-octets.ensures.search.0;
      handle = c.in_ok-octets.ensures.search.1 ∙ c.loop-alloc.invariant.handle;
      further = inr (further_next c.args.self c.loop-alloc.self c.pass.new.self new c.loop-alloc.invariant.further c.in_ok-octets.ensures.further refl);
      left = inr (left_next (g.R.Rows.content c.args.rows.now) c.args.self c.loop-alloc.self new c.loop-alloc.invariant.left (subst (λ (t : Table). looks_left t new < looks_left t c.loop-alloc.self) c.loop-alloc.invariant.same c.in_ok-octets.ensures.left));
    }

pub returns-in_err-octets-clause-cost : goal.returns-in_err-octets-clause-cost
returns-in_err-octets-clause-cost g c =
    let t = g.R.Rows.content c.args.rows.now in
    let last = subst (λ (u : Table). ReadsWithin u value_cost (g.R.Rows.reads c.loop-alloc.rows) (g.R.Rows.reads c.pass.new.rows)) c.loop-alloc.invariant.same c.pass.ensures.cost in
    search_read t c.args.most (g.R.Rows.reads c.args.rows.now) (g.R.Rows.reads c.loop-alloc.rows) c.loop-alloc.left (g.R.Rows.reads c.pass.new.rows) c.loop-alloc.invariant.read last

pub returns-then-left-octets-clause-cost : goal.returns-then-left-octets-clause-cost
returns-then-left-octets-clause-cost g c =
    let t = g.R.Rows.content c.args.rows.now in
    let last = subst (λ (u : Table). ReadsWithin u value_cost (g.R.Rows.reads c.loop-alloc.rows) (g.R.Rows.reads c.pass.new.rows)) c.loop-alloc.invariant.same c.pass.ensures.cost in
    search_read t c.args.most (g.R.Rows.reads c.args.rows.now) (g.R.Rows.reads c.loop-alloc.rows) c.loop-alloc.left (g.R.Rows.reads c.pass.new.rows) c.loop-alloc.invariant.read last

pub returns-clause-cost : goal.returns-clause-cost
returns-clause-cost g c = search_ended (g.R.Rows.content c.args.rows.now) c.args.most (g.R.Rows.reads c.args.rows.now) c.loop-alloc.left (g.R.Rows.reads c.loop-alloc.rows) c.loop-alloc.invariant.read

pub returns-then-left-octets-clause-left : goal.returns-then-left-octets-clause-left
returns-then-left-octets-clause-left g c =
    let new : Search = record { handle = c.pass.new.self.handle; found = c.pass.new.self.found; looked_up = c.saturating_add.result } in
    inr (left_next (g.R.Rows.content c.args.rows.now) c.args.self c.loop-alloc.self new c.loop-alloc.invariant.left (subst (λ (t : Table). looks_left t new < looks_left t c.loop-alloc.self) c.loop-alloc.invariant.same c.in_ok-octets.ensures.left))
