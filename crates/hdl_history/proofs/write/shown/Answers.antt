use Rattle.std.proofs.Common.{◌≡◌, sym, subst, ◌∙◌, rules}
use Rattle.hdl_value.specs.declared.value.Value.{Value}
use Rattle.hdl_value_lines.proofs.Spelt.{spelt_again, spelt_is}
use Rattle.hdl_history.specs.Lines.{shown}
use Rattle.hdl_history.proofs.write.shown.Goals as goal

pub unreachable-requires : goal.unreachable-requires
unreachable-requires c =
    let read = spelt_again c.deref.result.now c.args.value.now c.value_fits.ensures.fits (c.deref.ensures.value ∙ c.in_ok-octets.ensures) in
    let both = sym (c.in_default.ensures {u = tt}) ∙ read in
    absurd cc

pub returns : goal.returns
returns c =
    let same : c.in-Some.cut ≡ c.args.value.now = spelt_is c.deref.result.now _ c.args.value.now c.in-Some.cut c.value_fits.ensures.fits (c.deref.ensures.value ∙ c.in_ok-octets.ensures) c.in-Some.ensures in
    let line : c.new.result ≡ shown c.in-Some.cut = search rules in
    subst (λ (v : Value). c.new.result ≡ shown v) same line
