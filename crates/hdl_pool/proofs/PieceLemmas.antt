-- What an accepted frame with TC says of its piece.
use Rattle.std.proofs.Common.{◌≡◌, ◌*◌, ◌<◌, ◌≤◌, true, None, arith}
use Rattle.std.proofs.lemmas.Bool.Decides.{nat_tests}
use Rattle.hdl_frame.specs.declared.envelope.Envelope.{Envelope}
use Rattle.hdl_frame.specs.Envelope.{fault_of, is_truncated}

pub piece_fits : (e : Envelope) → fault_of e ≡ None → is_truncated e ≡ true → (492 * e.sequence < e.length) × (e.length ≤ 65536)
unfolding fault_of
piece_fits e accepted truncated = grind (arith, nat_tests)
