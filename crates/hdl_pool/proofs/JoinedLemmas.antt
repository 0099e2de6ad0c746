-- The steps of a loop that joins lists, one of which is handed in.
use Rattle.std.proofs.Common.{◌≡◌, ◌≢◌, ℕ, ◌+◌, ◌<◌, List, ◌++◌, length, get_or, set, drop, Option, Some, None, refl, sym, ap, ◌∙◌, append_assoc, arith}
use Rattle.std.specs.Prelude.{option_map}
use Rattle.std.specs.Global.{Vec}
use Rattle.std.proofs.lemmas.List.{drop_more, get_or-set_same, get_or-set_other, get_or-map, length-map, length-set}
use Rattle.hdl_frame.specs.Whole.{before, whole_payload}
use Rattle.hdl_pool.specs.Assembly.{lists}

before-before : (front payload : List ℕ) (r : Option (List ℕ)) → before front (before payload r) ≡ before (front ++ payload) r
before-before front payload None = refl
before-before front payload (Some rest) = ap (λ (t : List ℕ). Some t) (sym (append_assoc front payload rest))

one_more : (ys : List (Option (List ℕ))) (k : ℕ) (front new payload : List ℕ) (total : Option (List ℕ)) → k < length ys → get_or ys k None ≡ Some payload → new ≡ front ++ payload
    → total ≡ before front (whole_payload (drop k ys)) → total ≡ before new (whole_payload (drop (k + 1) ys))
one_more ys k front new payload total lt at added so_far =
    so_far ∙ ap (λ (t : List (Option (List ℕ))). before front (whole_payload t)) (drop_more ys k None lt) ∙ rw (at, added) (before-before front payload (whole_payload (drop (k + 1) ys)))

one_missing : (ys : List (Option (List ℕ))) (k : ℕ) (front : List ℕ) (total : Option (List ℕ)) → k < length ys → get_or ys k None ≡ None → total ≡ before front (whole_payload (drop k ys)) → total ≡ None
one_missing ys k front total lt at so_far = so_far ∙ ap (λ (t : List (Option (List ℕ))). before front (whole_payload t)) (drop_more ys k None lt) ∙ rw at refl

abbrev pub items_of : Vec ℕ → List ℕ
items_of v = v.items

length-lists : (xs : List (Option (Vec ℕ))) → length (lists xs) ≡ length xs
length-lists xs = length-map xs (option_map items_of)

at_other : (xs : List (Option (Vec ℕ))) (n k : ℕ) (p : Option (List ℕ)) (x : Option (Vec ℕ)) → k < length xs → k ≢ n → x ≡ get_or xs k x
    → get_or (set (lists xs) n p) k None ≡ option_map items_of x
at_other xs n k p x lt ne at = get_or-set_other (lists xs) n k p None ne ∙ get_or-map (option_map items_of) xs k x None lt ∙ ap (option_map items_of) (sym at)

pub joins_given : (xs : List (Option (Vec ℕ))) (n k : ℕ) (payload front new : List ℕ) (total : Option (List ℕ)) → k < length xs → k ≡ n → new ≡ front ++ payload
    → total ≡ before front (whole_payload (drop k (set (lists xs) n (Some payload)))) → total ≡ before new (whole_payload (drop (k + 1) (set (lists xs) n (Some payload))))
joins_given xs n k payload front new total lt here added so_far =
    let ys = set (lists xs) n (Some payload) in
    let len : length (set (lists xs) n (Some payload)) ≡ length xs = length-set (lists xs) n (Some payload) ∙ length-lists xs in
    let plain = length-lists xs in
    one_more ys k front new payload total (omega arith) (rw here (get_or-set_same (lists xs) n (Some payload) None (omega arith))) added so_far

pub joins_other : (xs : List (Option (Vec ℕ))) (n k : ℕ) (payload front new : List ℕ) (x : Option (Vec ℕ)) (v : Vec ℕ) (total : Option (List ℕ)) → k < length xs → k ≢ n → x ≡ get_or xs k x → x ≡ Some v → new ≡ front ++ v.items
    → total ≡ before front (whole_payload (drop k (set (lists xs) n (Some payload)))) → total ≡ before new (whole_payload (drop (k + 1) (set (lists xs) n (Some payload))))
joins_other xs n k payload front new x v total lt ne at some added so_far =
    let ys = set (lists xs) n (Some payload) in
    let len : length (set (lists xs) n (Some payload)) ≡ length xs = length-set (lists xs) n (Some payload) ∙ length-lists xs in
    one_more ys k front new v.items total (omega arith) (at_other xs n k (Some payload) x lt ne at ∙ ap (option_map items_of) some) added so_far

pub joins_none : (xs : List (Option (Vec ℕ))) (n k : ℕ) (payload front : List ℕ) (x : Option (Vec ℕ)) (total : Option (List ℕ)) → k < length xs → k ≢ n → x ≡ get_or xs k x → x ≡ None
    → total ≡ before front (whole_payload (drop k (set (lists xs) n (Some payload)))) → total ≡ None
joins_none xs n k payload front x total lt ne at none so_far =
    let ys = set (lists xs) n (Some payload) in
    let len : length (set (lists xs) n (Some payload)) ≡ length xs = length-set (lists xs) n (Some payload) ∙ length-lists xs in
    one_missing ys k front total (omega arith) (at_other xs n k (Some payload) x lt ne at ∙ ap (option_map items_of) none) so_far
