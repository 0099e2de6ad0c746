use Rattle.std.proofs.Common.{subst, ◌∙◌}
use Rattle.hex.specs.Hex.{IsBytes}
use Rattle.hdl_export.proofs.line.value_line.Goals as goal

pub returns-clause-writable : goal.returns-clause-writable
returns-clause-writable c = record {
  fits = c.value_fits.ensures.fits;
  octets = subst IsBytes (c.as_slice.ensures.value ∙ c.in_ok-octets.ensures) c.octets_fit.ensures.fit;
}
