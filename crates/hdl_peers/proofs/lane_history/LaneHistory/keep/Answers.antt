use Rattle.std.proofs.Common.{◌∙◌, ap, sym, set}
use Rattle.hdl_peers.specs.Followed.{with_frame, put_behind}
use Rattle.hdl_peers.proofs.KeptLemmas.{with_piece_begun, with_piece_found}
use Rattle.hdl_peers.proofs.lane_history.LaneHistory.keep.Goals as goal

pub returns-in_default-clause-partials : goal.returns-in_default-clause-partials
returns-in_default-clause-partials c =
    c.put.ensures.put ∙ ap (put_behind 4 c.args.self.now.partials.items) c.first_mark.ensures
    ∙ with_piece_begun c.args.exchange c.args.self.now.partials.items (sym c.place.ensures ∙ c.in_default.is)

pub returns-in-Some-get_mut-clause-partials : goal.returns-in-Some-get_mut-clause-partials
returns-in-Some-get_mut-clause-partials c =
    let items = c.args.self.now.partials.items in
    ap (set items c.in-Some.place) (c.with_frame.ensures ∙ ap (with_frame c.args.exchange) c.in-Some-get_mut.ensures.value)
    ∙ with_piece_found c.args.exchange items c.in-Some.place c.in-Some-get_mut.mark.now (sym c.place.ensures ∙ c.in-Some.is)
