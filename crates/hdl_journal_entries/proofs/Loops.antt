-- Reading one after the other into a list, as a loop does.
use Rattle.std.proofs.Common.{◌≡◌, ℕ, suc, ◌-◌, ◌+◌, ◌≤◌, ◌<◌, List, [], ◌∷◌, ◌++◌, Option, Some, None, refl, sym, ap, ◌∙◌, append_assoc, arith, length, take, get_or}
use Rattle.std.specs.Option.{option_map}
use Rattle.std.proofs.lemmas.List.{append-nil}
use Rattle.std.proofs.lemmas.List.Concat.{flat_map-cons}
use Rattle.std.proofs.lemmas.Grind.{flat_map-append}
use Rattle.std.proofs.Math.Seq.{take-suc}
use Rattle.std.specs.List.{flat_map}
use Rattle.hdl_value.specs.Reading.{◌>>=◌, many_at}

-- what was read before stands before what is read
abbrev pub behind : {A : Type 0} → List A → Option (List A × List ℕ) → Option (List A × List ℕ)
behind before read = option_map (λ x. (before ++ x.0, x.1)) read

-- all are those that were read so far, and those that the rest holds
abbrev pub SoFar : {A : Type 0} → (List ℕ → Option (A × List ℕ)) → ℕ → ℕ → List ℕ → List ℕ → List A → Type 0
SoFar reader count i octets rest before = many_at reader count octets ≡ behind before (many_at reader (count - i) rest)

behind_nothing : {A : Type 0} (read : Option (List A × List ℕ)) → read ≡ behind [] read
behind_nothing (Some (xs, t)) = refl
behind_nothing None = refl

pub begins : {A : Type 0} (reader : List ℕ → Option (A × List ℕ)) (count : ℕ) (octets : List ℕ) → SoFar reader count 0 octets octets []
begins reader count octets =
    let k : count - 0 ≡ count = omega arith in
    rw k (behind_nothing (many_at reader count octets))

one_more : {A : Type 0} (before : List A) (x : A) (read : Option (List A × List ℕ)) → behind before (read >>= λ others. Some (x ∷ others.0, others.1)) ≡ behind (before ++ x ∷ []) read
one_more before x (Some (ys, t)) = ap (λ l. Some (l, t)) (sym (append_assoc before (x ∷ []) ys))
one_more before x None = refl

pub goes_on : {A : Type 0} (reader : List ℕ → Option (A × List ℕ)) (count i : ℕ) (octets rest after : List ℕ) (before : List A) (x : A) → i < count → reader rest ≡ Some (x, after)
    → SoFar reader count i octets rest before → SoFar reader count (i + 1) octets after (before ++ x ∷ [])
unfolding many_at
goes_on reader count i octets rest after before x lt one so_far =
    let k : count - i ≡ suc (count - (i + 1)) = omega arith in
    so_far ∙ (rw (k, one) (one_more before x (many_at reader (count - (i + 1)) after)))

pub stops : {A : Type 0} (reader : List ℕ → Option (A × List ℕ)) (count i : ℕ) (octets rest : List ℕ) (before : List A) → i < count → reader rest ≡ None
    → SoFar reader count i octets rest before → many_at reader count octets ≡ None
unfolding many_at
stops reader count i octets rest before lt none so_far =
    let k : count - i ≡ suc (count - (i + 1)) = omega arith in
    so_far ∙ (rw (k, none) refl)

pub ends : {A : Type 0} (reader : List ℕ → Option (A × List ℕ)) (count i : ℕ) (octets rest : List ℕ) (before : List A) → count ≤ i
    → SoFar reader count i octets rest before → many_at reader count octets ≡ Some (before, rest)
unfolding many_at
ends reader count i octets rest before le so_far =
    let k : count - i ≡ 0 = omega arith in
    so_far ∙ (rw k (ap (λ l. Some (l, rest)) (append-nil before)))

-- writing one more behind those that were written, as a loop does
pub puts_one : {A : Type 0} (f : A → List ℕ) (xs : List A) (i : ℕ) (x : A) (old head out new : List ℕ) → i < length xs → x ≡ get_or xs i x → out ≡ old ++ (head ++ flat_map f (take i xs)) → new ≡ out ++ f x
    → new ≡ old ++ (head ++ flat_map f (take (i + 1) xs))
puts_one f xs i x old head out new lt item was put =
    let next : i + 1 ≡ suc i = omega arith in
    let taken : take (suc i) xs ≡ take i xs ++ x ∷ [] = take-suc xs i x lt ∙ ap (λ y. take i xs ++ y ∷ []) (sym item) in
    let last : flat_map f (x ∷ []) ≡ f x = flat_map-cons f x [] ∙ append-nil (f x) in
    let all : flat_map f (take (i + 1) xs) ≡ flat_map f (take i xs) ++ f x =
    ap (λ n. flat_map f (take n xs)) next ∙ ap (flat_map f) taken ∙ flat_map-append f (take i xs) (x ∷ []) ∙ ap (λ l. flat_map f (take i xs) ++ l) last in
    put ∙ ap (λ l. l ++ f x) was ∙ append_assoc old (head ++ flat_map f (take i xs)) (f x) ∙ ap (λ l. old ++ l) (append_assoc head (flat_map f (take i xs)) (f x)) ∙ ap (λ l. old ++ (head ++ l)) (sym all)
