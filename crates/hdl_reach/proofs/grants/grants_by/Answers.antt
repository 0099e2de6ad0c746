use Rattle.std.proofs.Common.{◌≡◌, ◌++◌, ◌∙◌, take, length, option_to_list, arith, ap, sym}
use Rattle.hdl_name.specs.Name.{canonical}
use Rattle.hdl_reach.specs.Granted.{granted_by, all_granted_by, read_by}
use Rattle.hdl_reach.specs.Views.{grants_in}
use Rattle.hdl_reach.proofs.Granted.{granted_more, read_less, read_next, read_part, read_on}
use Rattle.hdl_reach.proofs.Searches.{take_whole}
use Rattle.hdl_reach.proofs.grants.grants_by.Goals as goal

pub returns-in_err-grant-clause-cost : goal.returns-in_err-grant-clause-cost
returns-in_err-grant-clause-cost g c =
    let t = g.R.Rows.content c.args.rows.now in
    let h = canonical c.args.here.name in
    let v = c.head-item.result in
    read_on _ _ (read_by t h v) _ _ _ _ c.loop-head.invariant.read c.grant_by.ensures.cost (λ k. read_by (c.loop-head.invariant.same k) (canonical (c.loop-head.invariant.name k)) v)
    (read_part t h c.args.heads.now c.loop-head.head-index v c.loop-head-test.true c.head-item.is)

pub returns-in_err-push_grant-clause-cost : goal.returns-in_err-push_grant-clause-cost
returns-in_err-push_grant-clause-cost g c =
    let t = g.R.Rows.content c.args.rows.now in
    let h = canonical c.args.here.name in
    let v = c.head-item.result in
    read_on _ _ (read_by t h v) _ _ _ _ c.loop-head.invariant.read c.grant_by.ensures.cost (λ k. read_by (c.loop-head.invariant.same k) (canonical (c.loop-head.invariant.name k)) v)
    (read_part t h c.args.heads.now c.loop-head.head-index v c.loop-head-test.true c.head-item.is)

pub loop-head-preserved : goal.loop-head-preserved
loop-head-preserved g c =
    let t = g.R.Rows.content c.args.rows.now in
    let h = canonical c.args.here.name in
    let i = c.loop-head.head-index in
    let v = c.head-item.result in
    let one : grants_in (option_to_list c.in_ok-grant.grant) ≡ granted_by t h v = c.in_ok-grant.ensures.found ∙ (λ k. granted_by (c.loop-head.invariant.same k) (canonical (c.loop-head.invariant.name k)) v) in
    record {
      same = c.grant_by.ensures.unchanged ∙ c.loop-head.invariant.same;
      answered = c.in_ok-grant.ensures.count.0 ∙ c.loop-head.invariant.answered;
      name = c.grant_by.ensures.name ∙ c.loop-head.invariant.name;
      found = c.in_ok-push_grant.ensures ∙ (λ k. c.loop-head.invariant.found k ++ one k) ∙ sym (granted_more t h c.args.heads.now i v c.loop-head-test.true c.head-item.is);
      read = read_on _ _ (read_by t h v) _ _ _ _ c.loop-head.invariant.read c.grant_by.ensures.cost (λ k. read_by (c.loop-head.invariant.same k) (canonical (c.loop-head.invariant.name k)) v)
          (read_next t h c.args.heads.now i v c.loop-head-test.true c.head-item.is);
    }

pub returns-clause-found : goal.returns-clause-found
returns-clause-found g c =
    let all : c.loop-head.head-index ≡ length c.args.heads.now = omega arith in
    c.loop-head.invariant.found ∙ ap (all_granted_by (g.R.Rows.content c.args.rows.now) (canonical c.args.here.name)) (ap (λ n. take n c.args.heads.now) all ∙ take_whole c.args.heads.now)

pub returns-clause-cost : goal.returns-clause-cost
returns-clause-cost g c =
    omega (arith, c.loop-head.invariant.read, read_less (g.R.Rows.content c.args.rows.now) (canonical c.args.here.name) c.args.heads.now c.loop-head.head-index)
