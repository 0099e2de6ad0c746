use Rattle.std.proofs.Common.{◌≡◌, Contains, rules, sym, ap, subst, ◌∙◌}
use Rattle.hdl_value.specs.declared.wire.Wire.TheVariants.{HandleNet}
use Rattle.hdl_tenants.specs.Register.{Register, informed, wire_among}
use Rattle.hdl_tenants.proofs.Registers.{sited_added}
use Rattle.hdl_tenants.proofs.text.Tenants.add_site.Goals as goal

pub invariant_of-self-2 : goal.invariant_of-self-2
invariant_of-self-2 c =
    let r : Register = record { publishers = c.self.inside.publishers; hostings = c.self.inside.prefixes; sites = c.self.inside.sites; opening = c.self.inside.opening.items } in
    let layout : c.wire.result ≡ HandleNet = search rules in
    rw (c.in_ok-add.ensures.ok, c.in-Some.ensures.place)
    (sited_added r c.args.line.now.name.now c.in_ok-octets.octets.items c.self.invariant c.in_ok-octets.ensures.octets.few (
      record { there = c.in-Some.ensures.there; layout = ap (wire_among r.publishers) (sym c.in-Some.ensures.place) ∙ sym c.wire.ensures ∙ layout },
      subst (λ u. Contains (informed r.sites) u → ⊥) c.in-Some.ensures.place c.in_ok-add.ensures.absent,
    ))
