use Rattle.std.proofs.Common.{◌≡◌, ◌∙◌, sym, ap}
use Rattle.hdl_pool.specs.Taking.{made_whole, kept, after_piece, fate_of}
use Rattle.hdl_pool.specs.Arrival.{piece_in}
use Rattle.hdl_pool.proofs.TakenLemmas.{missed_kept, missed_one, missed_other, fate-not_kept}
use Rattle.hdl_pool.proofs.cells.Cells.begin.Goals as goal

pub returns-in-Kept-clause-fate : goal.returns-in-Kept-clause-fate
returns-in-Kept-clause-fate c =
    let is : kept ≡ (after_piece c.in_ok-first.first (piece_in c.args.piece)).0 = sym (ap fate_of c.in-Kept.is) ∙ c.in_ok-taken.ensures.fate in
    rw (missed_kept c.args.self.now c.args.lane (piece_in c.args.piece) c.in_ok-first.first c.take.new.self c.requires.lane c.requires.fours c.requires.new c.in_ok-first.ensures is c.in_ok-taken.ensures.grown) c.store.ensures.fate

pub returns-in-Kept-clause-lanes : goal.returns-in-Kept-clause-lanes
returns-in-Kept-clause-lanes c =
    let is : kept ≡ (after_piece c.in_ok-first.first (piece_in c.args.piece)).0 = sym (ap fate_of c.in-Kept.is) ∙ c.in_ok-taken.ensures.fate in
    rw (missed_kept c.args.self.now c.args.lane (piece_in c.args.piece) c.in_ok-first.first c.take.new.self c.requires.lane c.requires.fours c.requires.new c.in_ok-first.ensures is c.in_ok-taken.ensures.grown) c.store.ensures.lanes

pub returns-in_default : goal.returns-in_default
returns-in_default c =
    let both = missed_other c.args.self.now c.args.lane (piece_in c.args.piece) c.in_ok-first.first (fate_of c.in_ok-taken.taken) c.requires.lane c.requires.fours c.requires.new c.in_ok-first.ensures c.in_ok-taken.ensures.fate (fate-not_kept c.in_ok-taken.taken c.in_default.not-Kept) in
    record { fate = both.0; lanes = both.1; unchanged = tt; fours = c.requires.fours }

pub returns-then-piece-le-PIECE_LEN-clause-fate : goal.returns-then-piece-le-PIECE_LEN-clause-fate
returns-then-piece-le-PIECE_LEN-clause-fate c =
    ap made_whole c.in_ok-from_slice.ensures.items ∙ (missed_one c.args.self.now c.args.lane (piece_in c.args.piece) c.requires.lane c.requires.fours c.requires.new c.requires.piece c.if-piece-le-PIECE_LEN.true).0

pub returns-then-piece-le-PIECE_LEN-clause-lanes : goal.returns-then-piece-le-PIECE_LEN-clause-lanes
returns-then-piece-le-PIECE_LEN-clause-lanes c = (missed_one c.args.self.now c.args.lane (piece_in c.args.piece) c.requires.lane c.requires.fours c.requires.new c.requires.piece c.if-piece-le-PIECE_LEN.true).1
