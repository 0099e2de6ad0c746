use Rattle.std.proofs.Common.{◌≡◌, false, Some, None, option_map, ap, sym, subst, ◌∙◌, arith}
use Rattle.std.proofs.lemmas.Option.{slice_get-get_or, slice_get_past}
use Rattle.hdl_laws.specs.Lanes.{fresh}
use Rattle.hdl_laws.specs.Worlds.{World, owner}
use Rattle.hdl_core.specs.Held.{Held}
use Rattle.hdl_core.specs.Machine.{Machine}
use Rattle.hdl_core.proofs.Places.{owner_of}
use Rattle.hdl_core.proofs.machine.Machine.owner.Goals as goal

pub returns-then-lane-len : goal.returns-then-lane-len
returns-then-lane-len g c =
    let lanes = c.self.inside.lanes in
    subst (λ (w : World). None ≡ owner w.site c.args.lane) (ap (λ (m : Machine _). m.world) c.self.view_is)
    (sym (owner_of c.self.inside.tenants c.self.inside.takes_changes lanes (g.R.Rows.content c.self.inside.rows) c.args.lane
    ∙ ap (option_map (λ (x : Held). x.publisher)) (slice_get_past lanes c.args.lane (omega (arith, c.len.ensures, c.if-lane-len.true)))))

pub returns : goal.returns
returns g c =
    let lanes = c.self.inside.lanes in
    subst (λ (w : World). Some c.publisher.result ≡ owner w.site c.args.lane) (ap (λ (m : Machine _). m.world) c.self.view_is)
    (ap Some c.publisher.ensures
    ∙ sym (owner_of c.self.inside.tenants c.self.inside.takes_changes lanes (g.R.Rows.content c.self.inside.rows) c.args.lane
    ∙ ap (option_map (λ (x : Held). x.publisher)) (slice_get-get_or lanes c.args.lane (record { publisher = 0; state = fresh false }) (omega (arith, c.len.ensures, c.if-lane-len.false)))))
