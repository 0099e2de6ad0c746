use Rattle.hdl_name.specs.Name.{canonical}
use Rattle.hdl_value.specs.Refs.{place_of}
use Rattle.hdl_reach.specs.Views.{mask_of}
use Rattle.hdl_cache.specs.Masks.{subject}
use Rattle.hdl_cache.proofs.Views.{kept_or_not}
use Rattle.hdl_cache.proofs.Truth.{kept_true}
use Rattle.hdl_cache.proofs.masks.Masks.keep.Goals as goal

pub returns-clause-kept : goal.returns-clause-kept
returns-clause-kept c = kept_or_not c.args.self.now c.in-Ok.pair (subject (canonical c.args.name.now) (place_of c.args.key.now)) c.in-Ok.ensures c.put.result c.self.inside.kept c.put.new.self c.args.mask c.put.ensures.entries c.put.ensures.err c.self.view_is c.self.invariant

pub returns-clause-still_true : goal.returns-clause-still_true
returns-clause-still_true c = λ t. kept_true t c.args.self.now _ (subject (canonical c.args.name.now) (place_of c.args.key.now)) (mask_of c.args.mask) (returns-clause-kept c)
