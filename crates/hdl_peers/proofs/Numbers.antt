-- As many numbers as are all held are kept.
use Rattle.std.proofs.Common.{◌≡◌, ℕ, zero, suc, ◌+◌, ◌<◌, ◌≤◌, Bool, true, false, not, ◌||◌, cond, eqb, List, [], ◌∷◌, ◌++◌, length, map, filter, refl, ap, ◌∙◌, arith}
use Rattle.std.specs.List.{list_any}
use Rattle.std.proofs.lemmas.Bool.{eqb-true, ne_eqb}
use Rattle.std.proofs.lemmas.List.{length-append, length-map}
use Rattle.std.proofs.lemmas.List.Folds.{list_any-append}
use Rattle.std.proofs.lemmas.Map.Views.{any-filter_same}
use Rattle.hdl_peers.specs.declared.kept.Mark.{Mark}
use Rattle.hdl_peers.specs.declared.kept.SentChallenge.{SentChallenge}
use Rattle.hdl_peers.specs.declared.exchange.Exchange.{Exchange}
use Rattle.hdl_peers.specs.Followed.{Followed, is_held}
use Rattle.hdl_peers.specs.Peers.{is_under_way}

abbrev others : (ℕ → Bool) → List ℕ → List ℕ
others p xs = filter (λ x. not (p x)) xs

no_longer : (p : ℕ → Bool) (xs : List ℕ) → length (others p xs) ≤ length xs
no_longer p [] = omega arith
no_longer p (x ∷ xs) = by_test (p x) (no_longer p xs)
  where
    by_test : (b : Bool) → length (others p xs) ≤ length xs → length (cond (not b) (x ∷ others p xs) (others p xs)) ≤ suc (length xs)
    by_test true le = omega arith
    by_test false le = omega arith

-- without what passes a test that one passes a list is shorter
shorter : (p : ℕ → Bool) (xs : List ℕ) → list_any p xs ≡ true → length (others p xs) < length xs
shorter p [] some = absurd (cc)
shorter p (x ∷ xs) some = by_test (p x) refl some (no_longer p xs) (shorter p xs)
  where
    by_test : (b : Bool) → p x ≡ b → b || list_any p xs ≡ true → length (others p xs) ≤ length xs → (list_any p xs ≡ true → length (others p xs) < length xs)
        → length (cond (not b) (x ∷ others p xs) (others p xs)) < suc (length xs)
    by_test true is any le below = omega arith
    by_test false is any le below = let lt = below any in omega arith

-- n numbers from 1 on are in no list that is shorter
within : (n : ℕ) (xs : List ℕ) → ((k : ℕ) → k < n → list_any (λ x. eqb x (k + 1)) xs ≡ true) → n ≤ length xs
within zero xs each = omega arith
within (suc n) xs each =
    let p : ℕ → Bool = λ x. eqb x (n + 1) in
    let lt : length (others p xs) < length xs = shorter p xs (each n (omega arith)) in
    let le : n ≤ length (others p xs) = within n (others p xs) (λ k below. stays k below) in
    omega arith
  where
    differs : (k x : ℕ) → k < n → eqb x (k + 1) ≡ true → not (eqb x (n + 1)) ≡ true
    differs k x below is = ap not (ne_eqb x (n + 1) (λ e. absurd (omega (arith, eqb-true x (k + 1) is))))

    stays : (k : ℕ) → k < n → list_any (λ x. eqb x (k + 1)) (filter (λ x. not (eqb x (n + 1))) xs) ≡ true
    stays k below = any-filter_same (λ x. eqb x (k + 1)) (λ x. not (eqb x (n + 1))) true (λ x is. differs k x below is) xs ∙ each k (omega arith)

-- ---- the numbers of what is kept, and of frames under way

abbrev numbers : Followed → List Exchange → List ℕ
numbers f es = (map (λ m. m.key.number) f.partials ++ map (λ s. s.number) f.challenges) ++ map (λ e. e.key.number) es

marks_any : (n : ℕ) (ms : List Mark) → list_any (λ x. eqb x n) (map (λ m. m.key.number) ms) ≡ list_any (λ m. eqb m.key.number n) ms
marks_any n [] = refl
marks_any n (m ∷ ms) = ap (λ (b : Bool). eqb m.key.number n || b) (marks_any n ms)

sent_any : (n : ℕ) (ss : List SentChallenge) → list_any (λ x. eqb x n) (map (λ s. s.number) ss) ≡ list_any (λ s. eqb s.number n) ss
sent_any n [] = refl
sent_any n (s ∷ ss) = ap (λ (b : Bool). eqb s.number n || b) (sent_any n ss)

frames_any : (n : ℕ) (es : List Exchange) → list_any (λ x. eqb x n) (map (λ e. e.key.number) es) ≡ is_under_way es n
frames_any n [] = refl
frames_any n (e ∷ es) = ap (λ (b : Bool). eqb e.key.number n || b) (frames_any n es)

kept_any : (f : Followed) (n : ℕ) → list_any (λ x. eqb x n) (map (λ (m : Mark). m.key.number) f.partials ++ map (λ (s : SentChallenge). s.number) f.challenges) ≡ is_held f n
kept_any f n =
    list_any-append (λ x. eqb x n) (map (λ (m : Mark). m.key.number) f.partials) (map (λ (s : SentChallenge). s.number) f.challenges)
    ∙ ap (λ (b : Bool). b || list_any (λ x. eqb x n) (map (λ (s : SentChallenge). s.number) f.challenges)) (marks_any n f.partials)
    ∙ ap (λ (b : Bool). list_any (λ (m : Mark). eqb m.key.number n) f.partials || b) (sent_any n f.challenges)

held_any : (f : Followed) (es : List Exchange) (n : ℕ) → list_any (λ x. eqb x n) (numbers f es) ≡ is_held f n || is_under_way es n
held_any f es n =
    list_any-append (λ x. eqb x n) (map (λ (m : Mark). m.key.number) f.partials ++ map (λ (s : SentChallenge). s.number) f.challenges) (map (λ (e : Exchange). e.key.number) es)
    ∙ ap (λ (b : Bool). b || list_any (λ x. eqb x n) (map (λ (e : Exchange). e.key.number) es)) (kept_any f n)
    ∙ ap (λ (b : Bool). is_held f n || b) (frames_any n es)

-- numbers from 1 on that are all held, or of frames under way, are no more than what is kept and under way
pub all_held : (f : Followed) (es : List Exchange) (n : ℕ) → ((k : ℕ) → k < n → is_held f (k + 1) || is_under_way es (k + 1) ≡ true) → n ≤ length f.partials + length f.challenges + length es
all_held f es n each =
    let le = within n (numbers f es) (λ k lt. held_any f es (k + 1) ∙ each k lt) in
    let a = length-append (map (λ (m : Mark). m.key.number) f.partials) (map (λ (s : SentChallenge). s.number) f.challenges) in
    let b = length-map f.partials (λ (m : Mark). m.key.number) in
    let c = length-map f.challenges (λ (s : SentChallenge). s.number) in
    let d = length-append (map (λ (m : Mark). m.key.number) f.partials ++ map (λ (s : SentChallenge). s.number) f.challenges) (map (λ (e : Exchange). e.key.number) es) in
    let e = length-map es (λ (e : Exchange). e.key.number) in
    omega arith
