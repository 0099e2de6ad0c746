-- Lanes that are made with rising numbers.
use Rattle.std.proofs.Common.{◌≡◌, ◌≢◌, ℕ, ◌+◌, ◌<◌, List, [], ◌∷◌, ◌++◌, length, All, arith}
use Rattle.std.proofs.lemmas.List.Elements.{All-push}
use Rattle.std.proofs.lemmas.List.Quantifiers.{all_pairs_push}
use Rattle.hdl_workers.specs.declared.ends.LaneEnds.{LaneEnds}
use Rattle.hdl_workers.specs.declared.worker_side.WorkerSide.{WorkerSide}
use Rattle.hdl_workers.specs.Ends.{AreDistinct, AreSides, AreLanes}

pub distinct_more : (lanes : List LaneEnds) (y : LaneEnds) (n : ℕ) → y.lane ≡ n → AreDistinct lanes → All (λ e. e.lane < n) lanes
    → AreDistinct (lanes ++ y ∷ []) × All (λ e. e.lane < n + 1) (lanes ++ y ∷ [])
distinct_more lanes y n is distinct below = (
  all_pairs_push (λ (a b : LaneEnds). a.lane ≢ b.lane) lanes y distinct (λ k d h same. let under = below k d h in omega (arith, under, same, is)),
  All-push (λ (e : LaneEnds). e.lane < n + 1) lanes y (λ k d h. let under = below k d h in omega (arith, under)) (omega (arith, is)),
)

pub lanes_more : (first n : ℕ) (ends : List LaneEnds) (sides : List WorkerSide) (e : LaneEnds) (f : WorkerSide) → AreLanes first ends sides → length ends + first ≡ n → e.lane ≡ n → AreSides e f
    → AreLanes first (ends ++ e ∷ []) (sides ++ f ∷ [])
lanes_more first n [] [] e f lanes many is are = (omega (arith, many, is), are, tt)
lanes_more first n [] (g ∷ sides) e f lanes many is are = elim lanes [ ]
lanes_more first n (d ∷ ends) [] e f lanes many is are = elim lanes [ ]
lanes_more first n (d ∷ ends) (g ∷ sides) e f lanes many is are = (lanes.0, lanes.1, lanes_more (first + 1) n ends sides e f lanes.2 (omega (arith, many)) is are)
