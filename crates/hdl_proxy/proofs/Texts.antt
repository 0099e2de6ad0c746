-- Texts behind references, one after the other.
use Rattle.std.proofs.Common.{◌≡◌, ◌<◌, ◌≤◌, ◌+◌, ℕ, List, [], ◌∷◌, ◌++◌, All, map, take, length, get_or, sym, ap, subst, ◌∙◌, arith}
use Rattle.std.specs.Borrow.{Bor}
use Rattle.std.proofs.lemmas.Grind.{common_steps}
use Rattle.std.proofs.lemmas.List.{map-append, take_more, get_or-map, length-map}
use Rattle.std.proofs.lemmas.List.Elements.{All-push}
use Rattle.hdl_proxy.specs.Query.{IsIndex, index_of}

abbrev pub nows : List (Bor (List ℕ)) → List (List ℕ)
nows items = map (λ item. item.now) items

within : (items : List (Bor (List ℕ))) (i : ℕ) → i < length items → i < length (nows items)
within items i l = subst (λ n. i < n) (sym (length-map {A = Bor (List ℕ)} {B = List ℕ} items (λ item. item.now))) l

pub now_more : (items : List (Bor (List ℕ))) (i : ℕ) (d : Bor (List ℕ)) → i < length items → take (i + 1) (nows items) ≡ take i (nows items) ++ (get_or items i d).now ∷ []
now_more items i d l =
    take_more (nows items) i [] (within items i l)
    ∙ ap (λ (text : List ℕ). take i (nows items) ++ text ∷ []) (get_or-map (λ (item : Bor (List ℕ)). item.now) items i d [] l)

pub now_all : (items : List (Bor (List ℕ))) (i : ℕ) → length items ≤ i → take i (nows items) ≡ nows items
now_all items i l =
    let same : length (nows items) ≡ length items = length-map {A = Bor (List ℕ)} {B = List ℕ} items (λ item. item.now) in
    let long : length (nows items) ≤ i = omega arith in
    grind (arith, common_steps)

-- ---- indexes

pub index_good : (items : List (Bor (List ℕ))) (i : ℕ) (d : Bor (List ℕ)) → i < length items → IsIndex (get_or items i d).now → All IsIndex (take i (nows items)) → All IsIndex (take (i + 1) (nows items))
index_good items i d l good h = subst (All IsIndex) (sym (now_more items i d l)) (All-push IsIndex (take i (nows items)) (get_or items i d).now h good)

pub index_read : (items : List (Bor (List ℕ))) (i : ℕ) (d : Bor (List ℕ)) (indexes pushed : List ℕ) (index : ℕ) → i < length items → index ≡ index_of (get_or items i d).now → indexes ≡ map index_of (take i (nows items)) → pushed ≡ indexes ++ index ∷ [] → pushed ≡ map index_of (take (i + 1) (nows items))
index_read items i d indexes pushed index l e h p =
    p
    ∙ ap (λ (xs : List ℕ). xs ++ index ∷ []) h
    ∙ ap (λ (x : ℕ). map index_of (take i (nows items)) ++ x ∷ []) e
    ∙ sym (ap (λ (ts : List (List ℕ)). map index_of ts) (now_more items i d l) ∙ map-append index_of (take i (nows items)) ((get_or items i d).now ∷ []))

pub index_bad : (items : List (Bor (List ℕ))) (i : ℕ) (d : Bor (List ℕ)) (values : List (List ℕ)) → i < length items → ¬ (IsIndex (get_or items i d).now) → nows items ≡ values → ¬ (All IsIndex values)
index_bad items i d values l bad e = λ all.
    let here = subst (All IsIndex) (sym e) all i [] (within items i l) in
    bad (subst IsIndex (get_or-map (λ (item : Bor (List ℕ)). item.now) items i d [] l) here)
