use Rattle.std.proofs.Common.{arith}
use Rattle.hdl_value.proofs.cut.CutValue.stored_by.Goals as goal

pub invariant_of-result : goal.invariant_of-result
invariant_of-result c =
    let f = c.self.invariant.fits in
    record {
      fits = record { index = f.index; kind = f.kind; bytes = c.string_fits.ensures.fits; ttl = f.ttl; ttl_octets = f.ttl_octets; permissions = f.permissions; timestamp = f.timestamp; references = f.references };
      whole = c.self.invariant.whole;
    }
