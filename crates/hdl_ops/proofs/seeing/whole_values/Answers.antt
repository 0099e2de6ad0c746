use Rattle.std.proofs.Common.{◌≡◌, ◌≤◌, ◌+◌, take, arith, ◌∙◌}
use Rattle.hdl_name.specs.Name.{canonical}
use Rattle.hdl_rows.specs.declared.reads.TheConstants.{CALL_OCTETS}
use Rattle.hdl_rows.specs.Reads.{of_value}
use Rattle.hdl_rows.specs.Table.{place, at}
use Rattle.hdl_ops.specs.declared.seeing.TheConstants.{READ_MAX}
use Rattle.hdl_ops.specs.Seeing.{cost_of_reading}
use Rattle.hdl_ops.proofs.Costs.{few_left, one_read, counted_on, read_on}
use Rattle.hdl_ops.proofs.Shown.{read_next, costs_next}
use Rattle.hdl_ops.proofs.seeing.whole_values.Goals as goal

pub returns-in_err-push_found-clause-cost : goal.returns-in_err-push_found-clause-cost
returns-in_err-push_found-clause-cost g c =
    let t = g.R.Rows.content c.args.rows.now in
    let u = g.R.Rows.content c.loop-head.rows in
    let n = cost_of_reading t (canonical c.args.place.now.name) (take c.loop-head.head-index c.args.heads.now) in
    let low : c.loop-head.octets ≤ READ_MAX = omega (arith, c.if-octets-gt-READ_MAX.false) in
    one_read t u (place (canonical c.loop-head.place.name) c.head-item.result.index) c.at.result n (g.R.Rows.reads c.args.rows.now) (g.R.Rows.reads c.loop-head.rows) (g.R.Rows.reads c.at.new.self) c.loop-head.invariant.same
    (few_left n c.loop-head.octets c.loop-head.invariant.counted low) c.loop-head.invariant.cost c.at.ensures.reads c.at.ensures.found

pub loop-head-preserved : goal.loop-head-preserved
loop-head-preserved g c =
    let t = g.R.Rows.content c.args.rows.now in
    let u = g.R.Rows.content c.loop-head.rows in
    let h = canonical c.args.place.now.name in
    let i = c.loop-head.head-index in
    let v = c.head-item.result in
    let value = c.in_ok-value.value in
    let n = cost_of_reading t h (take i c.args.heads.now) in
    let m = cost_of_reading t h (take (i + 1) c.args.heads.now) in
    let low : c.loop-head.octets ≤ READ_MAX = omega (arith, c.if-octets-gt-READ_MAX.false) in
    let found : value ≡ at t (place h v.index) = c.in_ok-value.ensures.found ∙ (λ k. at (c.loop-head.invariant.same k) (place (canonical (c.loop-head.invariant.name k)) v.index)) in
    let costs : m ≡ n + (CALL_OCTETS + of_value value) = costs_next t h c.args.heads.now i v value c.loop-head-test.true c.head-item.is found in
    record {
      same = c.at.ensures.unchanged ∙ c.loop-head.invariant.same;
      answered = c.in_ok-value.ensures.count ∙ c.loop-head.invariant.answered;
      name = c.loop-head.invariant.name;
      read = read_next t h c.args.heads.now i v c.loop-head.all.items c.push_found.new.all.items value c.loop-head-test.true c.head-item.is c.loop-head.invariant.read found c.in_ok-push_found.ensures;
      counted = counted_on n c.loop-head.octets c.found_octets.result c.with_call-octets.result m (of_value value) c.loop-head.invariant.counted c.found_octets.ensures c.with_call-octets.ensures costs;
      cost = read_on n m (of_value value) (g.R.Rows.reads c.args.rows.now) (g.R.Rows.reads c.loop-head.rows) (g.R.Rows.reads c.at.new.self) c.loop-head.invariant.cost c.in_ok-value.ensures.reads costs;
      within = one_read t u (place (canonical c.loop-head.place.name) v.index) c.at.result n (g.R.Rows.reads c.args.rows.now) (g.R.Rows.reads c.loop-head.rows) (g.R.Rows.reads c.at.new.self) c.loop-head.invariant.same
          (few_left n c.loop-head.octets c.loop-head.invariant.counted low) c.loop-head.invariant.cost c.at.ensures.reads c.at.ensures.found;
    }
