-- Tasks in flight of which no two have an order that matters: one more, and one less.
use Rattle.std.proofs.Common.{ℕ, zero, suc, ◌<◌, List, [], ◌∷◌, ◌++◌, All, length, get_or, take, drop, inl, inr, sym, arith}
use Rattle.std.specs.List.{remove}
use Rattle.std.proofs.lemmas.List.Elements.{All-nil, All-cons, All-head, All-tail, All-append, All-take, All-drop}
use Rattle.hdl_client.specs.declared.batch.PendingRequest.{PendingRequest}
use Rattle.hdl_client.specs.declared.task.Task.{Task}
use Rattle.hdl_client.specs.Batch.{OrderMatters, IsApart, AreApart}

-- it doesn't matter which of two is named first
turned : (a b : Task) → OrderMatters a b → OrderMatters b a
turned a b (inl alone) = inr (inl alone)
turned a b (inr (inl alone)) = inl alone
turned a b (inr (inr same)) = inr (inr (sym same))

-- one more, which is apart from all
pub apart_more : (in_flight : List PendingRequest) (pending : PendingRequest) → AreApart in_flight → All (IsApart pending.task.now) in_flight → AreApart (in_flight ++ pending ∷ [])
apart_more [] pending h all = (All-nil (IsApart pending.task.now), tt)
apart_more (f ∷ fs) pending h all =
    let first : ¬ (OrderMatters f.task.now pending.task.now) = All-head (IsApart pending.task.now) f fs all in
    let back : IsApart f.task.now pending = λ m. first (turned pending.task.now f.task.now m) in (
      All-append (IsApart f.task.now) fs (pending ∷ []) h.0 (All-cons (IsApart f.task.now) pending [] back (All-nil (IsApart f.task.now))),
      apart_more fs pending h.1 (All-tail (IsApart pending.task.now) f fs all),
    )

pub all_without : (P : PendingRequest → Type 0) (in_flight : List PendingRequest) (place : ℕ) → All P in_flight → All P (remove in_flight place)
all_without P in_flight place all = All-append P (take place in_flight) (drop (suc place) in_flight) (All-take P place in_flight all) (All-drop P (suc place) in_flight all)

-- one less
pub apart_without : (in_flight : List PendingRequest) (place : ℕ) → AreApart in_flight → AreApart (remove in_flight place)
apart_without [] zero h = tt
apart_without [] (suc place) h = tt
apart_without (f ∷ fs) zero h = h.1
apart_without (f ∷ fs) (suc place) h = (all_without (IsApart f.task.now) fs place h.0, apart_without fs place h.1)

-- what is taken is apart from what is left
pub taken_apart : (in_flight : List PendingRequest) (place : ℕ) (d : PendingRequest) → place < length in_flight → AreApart in_flight → All (IsApart (get_or in_flight place d).task.now) (remove in_flight place)
taken_apart [] place d there h = absurd (omega (arith, there))
taken_apart (f ∷ fs) zero d there h = h.0
taken_apart (f ∷ fs) (suc place) d there h =
    let taken : PendingRequest = get_or fs place d in
    let first : IsApart taken.task.now f = λ m. h.0 place d (omega (arith, there)) (turned f.task.now taken.task.now m) in
    All-cons (IsApart taken.task.now) f (remove fs place) first (taken_apart fs place d (omega (arith, there)) h.1)
