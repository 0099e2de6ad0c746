use Rattle.hdl_msg.proofs.Seen.{all_seen}
use Rattle.hdl_msg.proofs.request_fits.values_fit.Goals as goal

pub returns : goal.returns
returns c = all_seen c.args.wire c.args.values.now c.all_fit.ensures
