-- A piece goes to the first message of its key, or begins one.
use Rattle.std.proofs.Common.{◌≡◌, ℕ, zero, suc, ◌<◌, Bool, true, false, cond, List, [], ◌∷◌, length, set, get_or, find, eqb, Option, Some, None, refl, sym, ap, ◌∙◌, arith}
use Rattle.std.specs.Prelude.{position, unwrap_or, is_some, option_copied}
use Rattle.std.specs.Borrow.{Bor}
use Rattle.std.specs.List.{list_any}
use Rattle.std.specs.Option.{option_eq}
use Rattle.std.proofs.lemmas.Bool.{ltb-false}
use Rattle.std.proofs.lemmas.List.Folds.{list_any_at}
use Rattle.std.proofs.lemmas.List.Quantifiers.{position-Some}
use Rattle.std.proofs.lemmas.List.Sums.{fails_before_first}
use Rattle.hdl_peers.specs.declared.kept.MessageKey.{MessageKey}
use Rattle.hdl_peers.specs.declared.kept.Mark.{Mark}
use Rattle.hdl_peers.specs.declared.exchange.Exchange.{Exchange}
use Rattle.hdl_peers.specs.Followed.{is_of, is_response, with_frame, with_frame_among, with_piece, put_behind, first_mark}

-- the first of the key grows
grown_first : (e : Exchange) (ms : List Mark) (i : ℕ) (d : Mark) → i < length ms → is_of e.key (get_or ms i d) ≡ true → ((k : ℕ) → k < i → is_of e.key (get_or ms k d) ≡ false)
    → set ms i (with_frame e (get_or ms i d)) ≡ with_frame_among e ms
grown_first e [] i d lt here before = absurd (omega arith)
grown_first e (m ∷ ms) zero d lt here before = rw here refl
grown_first e (m ∷ ms) (suc i) d lt here before =
    let other : is_of e.key m ≡ false = before 0 (omega arith) in
    rw other (ap (λ (t : List Mark). m ∷ t) (grown_first e ms i d (omega arith) here (λ k below. before (suc k) (omega arith))))

pub with_piece_found : (e : Exchange) (ms : List Mark) (i : ℕ) (d : Mark) → position (is_of e.key) ms ≡ Some i → set ms i (with_frame e (get_or ms i d)) ≡ with_piece e ms
with_piece_found e ms i d found =
    let first = position-Some (is_of e.key) ms i d found in
    grown_first e ms i d first.0 first.1 first.2
    ∙ sym (ap (λ (b : Bool). cond b (with_frame_among e ms) (put_behind 4 ms (first_mark e))) (list_any_at (is_of e.key) ms i d first.0 first.1))

not_some : (b : Bool) (i : ℕ) → cond b (Some i) None ≡ None → b ≡ false
not_some true i e = absurd (cc)
not_some false i e = refl

none_of : (e : Exchange) (d : Mark) (ms : List Mark) → ((k : ℕ) → k < length ms → is_of e.key (get_or ms k d) ≡ false) → list_any (is_of e.key) ms ≡ false
none_of e d [] each = refl
none_of e d (m ∷ ms) each =
    let other : is_of e.key m ≡ false = each 0 (omega arith) in
    rw other (none_of e d ms (λ k lt. each (suc k) (omega arith)))

pub with_piece_begun : (e : Exchange) (ms : List Mark) → position (is_of e.key) ms ≡ None → put_behind 4 ms (first_mark e) ≡ with_piece e ms
with_piece_begun e ms none =
    let past = ltb-false _ _ (not_some _ _ none) in
    let missed = none_of e (first_mark e) ms (λ k lt. fails_before_first (is_of e.key) ms k (first_mark e) (omega (arith, past))) in
    sym (ap (λ (b : Bool). cond b (with_frame_among e ms) (put_behind 4 ms (first_mark e))) missed)

-- the operation that is that of a challenge response
pub response_of_eq : (o : Option ℕ) (b : Bool) → b ≡ option_eq eqb o (Some 200) → b ≡ true → is_response o ≡ true
response_of_eq None b is e = absurd (cc)
response_of_eq (Some n) b is e = sym is ∙ e

-- the one that is found stands at the place that is found
found_first : (key : MessageKey) (ms : List Mark) (i : ℕ) (d : Mark) → i < length ms → is_of key (get_or ms i d) ≡ true → ((k : ℕ) → k < i → is_of key (get_or ms k d) ≡ false) → find (is_of key) ms ≡ Some (get_or ms i d)
found_first key [] i d lt here before = absurd (omega arith)
found_first key (m ∷ ms) zero d lt here before = rw here refl
found_first key (m ∷ ms) (suc i) d lt here before =
    let other : is_of key m ≡ false = before 0 (omega arith) in
    rw other (found_first key ms i d (omega arith) here (λ k below. before (suc k) (omega arith)))

pub find_found : (key : MessageKey) (ms : List Mark) (i : ℕ) (d : Mark) → position (is_of key) ms ≡ Some i → find (is_of key) ms ≡ Some (get_or ms i d)
find_found key ms i d found = let first = position-Some (is_of key) ms i d found in found_first key ms i d first.0 first.1 first.2

pub find_missed : (key : MessageKey) (ms : List Mark) → position (is_of key) ms ≡ None → find (is_of key) ms ≡ None
find_missed key ms none =
    let past = ltb-false _ _ (not_some _ _ none) in
    missing key ms (λ k d lt. fails_before_first (is_of key) ms k d (omega (arith, past)))
  where
    missing : (key : MessageKey) (ms : List Mark) → ((k : ℕ) (d : Mark) → k < length ms → is_of key (get_or ms k d) ≡ false) → find (is_of key) ms ≡ None
    missing key [] each = refl
    missing key (m ∷ ms) each =
        let other : is_of key m ≡ false = each 0 m (omega arith) in
        rw other (missing key ms (λ k d lt. each (suc k) d (omega arith)))

-- what is there is copied
pub some_copied : (o : Option (Bor Mark)) (d m : Mark) → is_some o ≡ true → unwrap_or (option_copied o) d ≡ m → option_copied o ≡ Some m
some_copied None d m some is = absurd (cc)
some_copied (Some x) d m some is = ap Some is
