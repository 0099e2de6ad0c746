use Rattle.std.proofs.Common.{◌∙◌, ap}
use Rattle.hdl_name.specs.Name.{canonical}
use Rattle.hdl_reach.specs.Views.{grants_in}
use Rattle.hdl_reach.proofs.Granted.{begun_by, begun_read, looked_read}
use Rattle.hdl_reach.proofs.search.Search.begin.Goals as goal

pub returns-in_err-here-clause-cost : goal.returns-in_err-here-clause-cost
returns-in_err-here-clause-cost g c = looked_read (g.R.Rows.content c.args.rows.now) (canonical c.args.name.now) _ _ _ c.in_ok-found.ensures.found c.in_ok-found.ensures.reads

pub returns-in_err-starts-clause-cost : goal.returns-in_err-starts-clause-cost
returns-in_err-starts-clause-cost g c =
    begun_read (g.R.Rows.content c.args.rows.now) (g.R.Rows.content c.heads.new.self) (canonical c.args.name.now) (canonical c.in_ok-here.here.name) _ c.deref.result.now _ _ _
    c.heads.ensures.unchanged (ap canonical c.in_ok-here.ensures) (c.deref.ensures.value ∙ c.heads_in-heads.ensures) c.in_ok-found.ensures.found c.in_ok-found.ensures.by_index c.in_ok-found.ensures.reads c.grants_by.ensures.cost

pub returns-in_err-search_from-clause-cost : goal.returns-in_err-search_from-clause-cost
returns-in_err-search_from-clause-cost g c =
    begun_read (g.R.Rows.content c.args.rows.now) (g.R.Rows.content c.heads.new.self) (canonical c.args.name.now) (canonical c.in_ok-here.here.name) _ c.deref.result.now _ _ _
    c.heads.ensures.unchanged (ap canonical c.in_ok-here.ensures) (c.deref.ensures.value ∙ c.heads_in-heads.ensures) c.in_ok-found.ensures.found c.in_ok-found.ensures.by_index c.in_ok-found.ensures.reads c.grants_by.ensures.cost

pub returns-clause-cost : goal.returns-clause-cost
returns-clause-cost g c =
    begun_read (g.R.Rows.content c.args.rows.now) (g.R.Rows.content c.heads.new.self) (canonical c.args.name.now) (canonical c.in_ok-here.here.name) _ c.deref.result.now _ _ _
    c.heads.ensures.unchanged (ap canonical c.in_ok-here.ensures) (c.deref.ensures.value ∙ c.heads_in-heads.ensures) c.in_ok-found.ensures.found c.in_ok-found.ensures.by_index c.in_ok-found.ensures.reads c.grants_by.ensures.cost

pub returns-clause-begun : goal.returns-clause-begun
returns-clause-begun g c =
    let t = g.R.Rows.content c.args.rows.now in
    let starts = c.deref-2.ensures.value in
    let granted = begun_by t (g.R.Rows.content c.heads.new.self) (canonical c.args.name.now) (canonical c.in_ok-here.here.name) _ c.deref.result.now
    c.heads.ensures.unchanged (ap canonical c.in_ok-here.ensures) (c.deref.ensures.value ∙ c.heads_in-heads.ensures) c.in_ok-found.ensures.found c.in_ok-found.ensures.by_index in
    (c.in_ok-search_from.ensures.search t (ap grants_in starts ∙ c.in_ok-starts.ensures.found ∙ granted), c.in_ok-search_from.ensures.handle)
