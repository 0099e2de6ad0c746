use Rattle.std.proofs.Common.{◌≡◌, sym, subst, refl, ◌∙◌, inr}
use Rattle.hdl_value.specs.declared.value.Value.{Value}
use Rattle.hdl_value.specs.Fault.{IsSound, IsFirstFault}
use Rattle.hdl_value_lines.proofs.Spelt.{spelt_again, spelt_is}
use Rattle.hdl_value_lines.proofs.read.check.Goals as goal

pub unreachable-requires : goal.unreachable-requires
unreachable-requires c =
    let read = spelt_again c.deref.result.now c.args.value.now c.value_fits.ensures.fits (c.deref.ensures.value ∙ c.in_ok-octets.ensures) in
    let both = sym (c.in_default.ensures {u = tt}) ∙ read in
    absurd cc

pub returns-in-Ok-clause-sound : goal.returns-in-Ok-clause-sound
returns-in-Ok-clause-sound c =
    let same : c.in-Some.cut ≡ c.args.value.now = spelt_is c.deref.result.now _ c.args.value.now c.in-Some.cut c.value_fits.ensures.fits (c.deref.ensures.value ∙ c.in_ok-octets.ensures) c.in-Some.ensures in
    subst IsSound same c.in-Ok.ensures.fault

pub returns-clause-fault : goal.returns-clause-fault
returns-clause-fault c =
    let same : c.in-Some.cut ≡ c.args.value.now = spelt_is c.deref.result.now _ c.args.value.now c.in-Some.cut c.value_fits.ensures.fits (c.deref.ensures.value ∙ c.in_ok-octets.ensures) c.in-Some.ensures in
    let first = subst (λ (v : Value). IsFirstFault v c.in-Err.fault) same c.in-Err.ensures.fault.0 in
    inr (inr (c.args.value.now, c.in-Err.fault, refl, first, c.in-Err.ensures.fault.1, refl))
