use Rattle.hdl_site.proofs.Codecs.{site_codec}
use Rattle.hdl_site.proofs.laws.site_read_as_spelt.Goals as goal

pub returns : goal.returns
returns c = site_codec
