-- An address that is followed is so too with another beginning, if the shortest address of each scheme is.
use Rattle.std.proofs.Common.{◌≡◌, ◌≤◌, ◌<◌, ℕ, List, [], ◌++◌, length, map, take, drop, codes, sym, ap, ◌∙◌, inl, inr, append_assoc, arith}
use Rattle.std.specs.Char.{to_ascii_lowercase}
use Rattle.std.proofs.lemmas.Bool.{cases_lt}
use Rattle.std.proofs.lemmas.List.{take-append-le, take-append-drop, length-take-le, length-map, map-append, take-map, take_at, drop_at, drop_all, append-nil}
use Rattle.hdl_commands.specs.Addresses.{Begins, IsFollowed, StaysOf, KeepsFollowed, KeepsAddresses}

-- in letters of one case
abbrev small : List ℕ → List ℕ
small octets = map to_ascii_lowercase octets

-- the octets are the front and what follows it
cut : (octets front : List ℕ) → Begins octets front → small octets ≡ small front ++ small (drop (length front) octets)
cut octets front h =
    ap small (sym (take-append-drop (length front) octets))
    ∙ map-append to_ascii_lowercase (take (length front) octets) (drop (length front) octets)
    ∙ ap (λ (l : List ℕ). l ++ small (drop (length front) octets)) h

joins : (octets front more : List ℕ) → small octets ≡ small front ++ more → Begins octets front
joins octets front more e = sym (take-map to_ascii_lowercase (length front) octets) ∙ ap (λ (l : List ℕ). take (length front) l) e ∙ take_at (small front) more (length front) (length-map front to_ascii_lowercase)

begins_more : (a b more front : List ℕ) → small b ≡ small a ++ more → Begins a front → Begins b front
begins_more a b more front e h =
    joins b front (small (drop (length front) a) ++ more)
    (e ∙ ap (λ (l : List ℕ). l ++ more) (cut a front h) ∙ append_assoc (small front) (small (drop (length front) a)) more)

followed_more : (a b more : List ℕ) → small b ≡ small a ++ more → IsFollowed a → IsFollowed b
followed_more a b more e (inl h) = inl (begins_more a b more (codes "http://") e h)
followed_more a b more e (inr (inl h)) = inr (inl (begins_more a b more (codes "https://") e h))
followed_more a b more e (inr (inr (inl h))) = inr (inr (inl (begins_more a b more (codes "ftp://") e h)))
followed_more a b more e (inr (inr (inr (inl h)))) = inr (inr (inr (inl (begins_more a b more (codes "mailto:") e h))))
followed_more a b more e (inr (inr (inr (inr h)))) = inr (inr (inr (inr (begins_more a b more (codes "doi:") e h))))

-- what follows the first beginning goes on as the scheme does, and the shortest such address has the scheme
abbrev GoesOn : List ℕ → List ℕ → List ℕ → Type 0
GoesOn old rest scheme = Begins (old ++ drop (length old) scheme) scheme × ((more : List ℕ) × (small rest ≡ small (drop (length old) scheme) ++ more))

-- the beginning is shorter than the scheme
goes_on_short : (old rest scheme : List ℕ) → length old ≤ length scheme → Begins (old ++ rest) scheme → GoesOn old rest scheme
goes_on_short old rest scheme short h =
    let k : ℕ = length old in
    let m : List ℕ = drop k scheme in
    let more : List ℕ = small (drop (length scheme) (old ++ rest)) in
    let parts : small scheme ≡ small (take k scheme) ++ small m = ap small (sym (take-append-drop k scheme)) ∙ map-append to_ascii_lowercase (take k scheme) m in
    let whole : small old ++ small rest ≡ small (take k scheme) ++ (small m ++ more) =
    sym (map-append to_ascii_lowercase old rest)
    ∙ cut (old ++ rest) scheme h
    ∙ ap (λ (l : List ℕ). l ++ more) parts
    ∙ append_assoc (small (take k scheme)) (small m) more in
    let of_old : length (small old) ≡ k = length-map old to_ascii_lowercase in
    let of_front : length (small (take k scheme)) ≡ k = length-map (take k scheme) to_ascii_lowercase ∙ length-take-le k scheme short in
    let front : small old ≡ small (take k scheme) =
    sym (take_at (small old) (small rest) k of_old) ∙ ap (λ (l : List ℕ). take k l) whole ∙ take_at (small (take k scheme)) (small m ++ more) k of_front in
    let back : small rest ≡ small m ++ more =
    sym (drop_at (small old) (small rest) k of_old) ∙ ap (λ (l : List ℕ). drop k l) whole ∙ drop_at (small (take k scheme)) (small m ++ more) k of_front in
    let same : small (old ++ m) ≡ small scheme ++ [] =
    map-append to_ascii_lowercase old m ∙ ap (λ (l : List ℕ). l ++ small m) front ∙ sym parts ∙ sym (append-nil (small scheme)) in
    (joins (old ++ m) scheme [] same, (more, back))

-- it is as long, or longer
goes_on_long : (old rest scheme : List ℕ) → length scheme ≤ length old → Begins (old ++ rest) scheme → GoesOn old rest scheme
goes_on_long old rest scheme long h =
    let m : List ℕ = drop (length old) scheme in
    let n : ℕ = length scheme in
    let same : take n (old ++ m) ≡ take n (old ++ rest) = take-append-le n old m long ∙ sym (take-append-le n old rest long) in
    (ap small same ∙ h, (small rest, ap (λ (l : List ℕ). small l ++ small rest) (sym (drop_all (length old) scheme long))))

less : (m n : ℕ) → m < n → m ≤ n
less m n h = omega arith

goes_on : (old rest scheme : List ℕ) → Begins (old ++ rest) scheme → GoesOn old rest scheme
goes_on old rest scheme h = elim (cases_lt (length old) (length scheme)) [
  | inl short ↦ goes_on_short old rest scheme (less (length old) (length scheme) short) h
  | inr long ↦ goes_on_long old rest scheme long h
]

stays : (old new rest scheme : List ℕ) → StaysOf old new scheme → (Begins (old ++ drop (length old) scheme) scheme → IsFollowed (old ++ drop (length old) scheme))
    → Begins (old ++ rest) scheme → IsFollowed (new ++ rest)
unfolding StaysOf
stays old new rest scheme kept one h =
    let found : GoesOn old rest scheme = goes_on old rest scheme h in
    let m : List ℕ = drop (length old) scheme in
    let more : List ℕ = found.1.0 in
    let same : small (new ++ rest) ≡ small (new ++ m) ++ more =
    map-append to_ascii_lowercase new rest
    ∙ ap (λ (l : List ℕ). small new ++ l) found.1.1
    ∙ sym (append_assoc (small new) (small m) more)
    ∙ ap (λ (l : List ℕ). l ++ more) (sym (map-append to_ascii_lowercase new m)) in
    followed_more (new ++ m) (new ++ rest) more same (kept (one found.0))

all_stay : (old new rest : List ℕ) → KeepsFollowed old new → IsFollowed (old ++ rest) → IsFollowed (new ++ rest)
all_stay old new rest k (inl h) = stays old new rest (codes "http://") k.0.0 (λ b. inl b) h
all_stay old new rest k (inr (inl h)) = stays old new rest (codes "https://") k.0.1 (λ b. inr (inl b)) h
all_stay old new rest k (inr (inr (inl h))) = stays old new rest (codes "ftp://") k.0.2 (λ b. inr (inr (inl b))) h
all_stay old new rest k (inr (inr (inr (inl h)))) = stays old new rest (codes "mailto:") k.1 (λ b. inr (inr (inr (inl b)))) h
all_stay old new rest k (inr (inr (inr (inr h)))) = stays old new rest (codes "doi:") k.2 (λ b. inr (inr (inr (inr b)))) h

pub keeps_addresses : (old new : List ℕ) → KeepsFollowed old new → KeepsAddresses old new
keeps_addresses old new k = λ rest. all_stay old new rest k
