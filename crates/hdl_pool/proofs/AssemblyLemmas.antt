-- What the calls of an assembly leave, and how many pieces it lacks.
use Rattle.std.proofs.Common.{◌≡◌, ◌≢◌, ℕ, zero, suc, ◌+◌, ◌-◌, ◌<◌, ◌≤◌, List, [], ◌∷◌, length, set, get_or, replicate, cond, Option, Some, None, refl, sym, ap, ◌∙◌, arith}
use Rattle.std.specs.Prelude.{option_map, is_none}
use Rattle.std.specs.Global.{Vec}
use Rattle.std.proofs.lemmas.List.{map-set, length-map}
use Rattle.std.proofs.lemmas.List.Sums.{sum_by-set, sum_by-cons, get_or-le-sum_by}
use Rattle.hdl_frame.specs.Pieces.{piece_count}
use Rattle.hdl_frame.specs.Whole.{before, whole_payload}
use Rattle.hdl_pool.specs.declared.piece.MessageKey.{MessageKey}
use Rattle.hdl_pool.specs.Partial.{Partial, with_payload, payload_at, nothing_of, whole}
use Rattle.hdl_pool.specs.Assembly.{lists, count_missing}

abbrev partial : MessageKey → ℕ → List (Option (List ℕ)) → Partial
partial key len pieces = record { key = key; length = len; pieces = pieces }

abbrev lack : Option (List ℕ) → ℕ
lack o = cond (is_none o) 1 0

pub put_is : (p : Partial) (key : MessageKey) (len k : ℕ) (xs : List (Option (Vec ℕ))) (v : Vec ℕ) (payload : List ℕ) → partial key len (lists xs) ≡ p → v.items ≡ payload
    → partial key len (lists (set xs k (Some v))) ≡ with_payload p k payload
put_is p key len k xs v payload view e =
    rw (← view, ← e) (ap (partial key len) (map-set (option_map (λ (w : Vec ℕ). w.items)) xs k (Some v)))

lists-replicate : (n : ℕ) → lists (replicate n None) ≡ replicate n None
lists-replicate zero = refl
lists-replicate (suc n) = ap (λ (t : List (Option (List ℕ))). None ∷ t) (lists-replicate n)

pub new_is : (key : MessageKey) (len count i : ℕ) (xs : List (Option (Vec ℕ))) → count ≡ piece_count len → i ≤ count → count ≤ i → xs ≡ replicate i None → partial key len (lists xs) ≡ nothing_of key len
new_is key len count i xs counted le ge e =
    let same : i ≡ piece_count len = omega arith in
    rw (e, same) (ap (partial key len) (lists-replicate (piece_count len)))

-- one of which nothing came lacks every piece
pub missing-replicate : (n : ℕ) → count_missing (replicate n None) ≡ n
missing-replicate zero = refl
missing-replicate (suc n) = sum_by-cons lack None (replicate n None) ∙ omega (arith, missing-replicate n)

pub missing_new : (i : ℕ) (xs : List (Option (Vec ℕ))) → xs ≡ replicate i None → i ≡ count_missing (lists xs)
missing_new i xs e = rw e (sym (ap count_missing (lists-replicate i) ∙ missing-replicate i))

-- one more came
pub missing-set : (xs : List (Option (List ℕ))) (k : ℕ) (payload : List ℕ) → k < length xs → get_or xs k None ≡ None → count_missing (set xs k (Some payload)) + 1 ≡ count_missing xs
missing-set xs k payload lt none =
    let counted = sum_by-set lack xs k (Some payload) None lt in
    let one : lack (get_or xs k None) ≡ 1 = rw none refl in
    omega arith

pub some_missing : (xs : List (Option (List ℕ))) (k : ℕ) → k < length xs → get_or xs k None ≡ None → 1 ≤ count_missing xs
some_missing xs k lt none =
    let le = get_or-le-sum_by lack xs k None lt in
    let one : lack (get_or xs k None) ≡ 1 = rw none refl in
    omega arith

-- where a piece is lacking there is no message
pub joined_lacking : (xs : List (Option (List ℕ))) → 1 ≤ count_missing xs → whole_payload xs ≡ None
joined_lacking [] le = absurd (omega arith)
joined_lacking (None ∷ xs) le = refl
joined_lacking (Some payload ∷ xs) le =
    let fewer = sum_by-cons lack (Some payload) xs in
    ap (before payload) (joined_lacking xs (omega arith))

length-lists : (xs : List (Option (Vec ℕ))) → length (lists xs) ≡ length xs
length-lists xs = length-map xs (option_map (λ (w : Vec ℕ). w.items))

-- a payload that didn't come is one of those that are lacking
pub put_missing : (p : Partial) (key : MessageKey) (len k missing : ℕ) (xs : List (Option (Vec ℕ))) (v : Vec ℕ) → partial key len (lists xs) ≡ p → length xs ≡ piece_count len
    → missing ≡ count_missing (lists xs) → k < piece_count p.length → payload_at p k ≡ None → missing - 1 ≡ count_missing (lists (set xs k (Some v)))
put_missing p key len k missing xs v view sized counted lt none =
    let within : k < piece_count len = rw (← view) at lt in
    let absent : get_or (lists xs) k None ≡ None = rw (← view) at none in
    let fewer = missing-set (lists xs) k v.items (omega (arith, length-lists xs)) absent in
    let same = ap count_missing (map-set (option_map (λ (w : Vec ℕ). w.items)) xs k (Some v)) in
    omega arith

-- unless just one is lacking, no payload completes the message
pub not_completed : (p : Partial) (key : MessageKey) (len k missing : ℕ) (xs : List (Option (Vec ℕ))) (payload : List ℕ) → partial key len (lists xs) ≡ p → length xs ≡ piece_count len
    → missing ≡ count_missing (lists xs) → missing ≢ 1 → k < piece_count p.length → payload_at p k ≡ None → None ≡ whole (with_payload p k payload)
not_completed p key len k missing xs payload view sized counted several lt none =
    let within : k < piece_count len = rw (← view) at lt in
    let absent : get_or (lists xs) k None ≡ None = rw (← view) at none in
    let fewer = missing-set (lists xs) k payload (omega (arith, length-lists xs)) absent in
    rw (← view) (sym (joined_lacking (set (lists xs) k (Some payload)) (omega arith)))
