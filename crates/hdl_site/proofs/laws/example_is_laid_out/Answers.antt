use Rattle.std.proofs.Common.{refl}
use Rattle.hdl_site.specs.Info.{site_octets}
use Rattle.hdl_site.proofs.laws.example_is_laid_out.Goals as goal

pub returns : goal.returns
unfolding site_octets
returns c = refl
