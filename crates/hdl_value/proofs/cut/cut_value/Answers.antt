use Rattle.std.proofs.Common.{arith}
use Rattle.hdl_value.specs.Cut.{value_view}
use Rattle.hdl_value.specs.declared.wire.Wire.TheVariants.{Profile}
use Rattle.hdl_value.proofs.HandleNet.{fits_read}
use Rattle.hdl_value.proofs.cut.cut_value.Goals as goal

pub invariant_of-result : goal.invariant_of-result
invariant_of-result c =
    record { fits = fits_read Profile c.args.octets.now c.in_ok-fields.rest.now (value_view c.in_ok-fields.fields) (λ i. omega (arith, c.type_inv.octets i)) c.in_ok-fields.ensures.reads; whole = c.in_ok-fields.ensures.whole }
