use Rattle.hdl_reach.specs.Search.{IsSearch}
use Rattle.hdl_cache.proofs.Held.{all_pushed}
use Rattle.hdl_cache.proofs.searches.MasksAndSearches.hold.Goals as goal

pub returns : goal.returns
returns c = λ t h is.
    let held = c.make_room_for.ensures t (c.make_room.ensures t h) in
    (held.0, all_pushed (IsSearch t) c.push.result c.make_room_for.new.self.searches.items c.push.new.self.items c.args.search c.push.ensures.items held.1 is)
