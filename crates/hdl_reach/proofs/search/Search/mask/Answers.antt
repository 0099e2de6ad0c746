use Rattle.hdl_value.specs.Refs.{place_of}
use Rattle.hdl_reach.proofs.Ends.{mask_answered}
use Rattle.hdl_reach.proofs.search.Search.mask.Goals as goal

pub returns : goal.returns
returns c = record { found = λ t h done. mask_answered t c.args.self.now (place_of c.args.key.now) c.mask.result h done c.mask.ensures }
