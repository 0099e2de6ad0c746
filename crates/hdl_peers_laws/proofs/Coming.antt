-- Whatever is replied to frames under way, what is followed then stands under numbers that were held, or under which one of them came.
use Rattle.std.proofs.Common.{◌≡◌, ◌⊎◌, inl, inr, ℕ, Bool, true, false, not, ◌==◌, ◌&&◌, ◌||◌, cond, nat_lt, List, [], ◌∷◌, ◌++◌, length, drop, filter, Option, Some, None, is_none, refl, sym, ap, ◌∙◌}
use Rattle.std.specs.List.{list_any}
use Rattle.std.proofs.lemmas.List.Folds.{list_any-append}
use Rattle.hdl_peers.specs.declared.kept.Mark.{Mark}
use Rattle.hdl_peers.specs.declared.kept.SentChallenge.{SentChallenge}
use Rattle.hdl_peers.specs.declared.exchange.Exchange.{Exchange}
use Rattle.hdl_peers.specs.Followed.{Followed, is_of, is_from, is_held, put_behind, first_mark, with_frame, with_frame_among, with_piece, leave_unanswered, operation_of, end_message, is_response, redeem, add_challenge, leave_answered, finish_by, finish_exchange}
use Rattle.hdl_peers.specs.Peers.{is_under_way}
use Rattle.hdl_peers_laws.specs.Laws.{HoldsWhatComes}

-- ---- one of two

either : (b c : Bool) → b || c ≡ true → (b ≡ true) ⊎ (c ≡ true)
either true c e = inl refl
either false c e = inr e

on_left : (b c : Bool) → b ≡ true → b || c ≡ true
on_left true c e = refl
on_left false c e = absurd cc

on_right : (b c : Bool) → c ≡ true → b || c ≡ true
on_right true c e = refl
on_right false c e = e

-- ---- one that passes a test, in lists that were made of others

module _ {A : Type 0} (p : A → Bool) where
  any_filter : (q : A → Bool) (xs : List A) → list_any p (filter q xs) ≡ true → list_any p xs ≡ true
  any_filter q [] e = e
  any_filter q (x ∷ xs) e = by_test (q x) e (λ some. any_filter q xs some)
    where
      by_head : (b : Bool) → (list_any p (filter q xs) ≡ true → list_any p xs ≡ true) → b || list_any p (filter q xs) ≡ true → b || list_any p xs ≡ true
      by_head true later e = refl
      by_head false later e = later e

      by_test : (b : Bool) → list_any p (cond b (x ∷ filter q xs) (filter q xs)) ≡ true → (list_any p (filter q xs) ≡ true → list_any p xs ≡ true) → p x || list_any p xs ≡ true
      by_test true e later = by_head (p x) later e
      by_test false e later = on_right (p x) (list_any p xs) (later e)

  any_if : (b : Bool) (q : A → Bool) (xs : List A) → list_any p (cond b (filter q xs) xs) ≡ true → list_any p xs ≡ true
  any_if true q xs e = any_filter q xs e
  any_if false q xs e = e

  any_drop : (xs : List A) → list_any p (drop 1 xs) ≡ true → list_any p xs ≡ true
  any_drop [] e = e
  any_drop (x ∷ xs) e = on_right (p x) (list_any p xs) e

  any_last : (xs : List A) (x : A) → list_any p (xs ++ x ∷ []) ≡ true → (list_any p xs ≡ true) ⊎ (p x ≡ true)
  any_last xs x e = by_last (either (list_any p xs) (p x || false) (sym (list_any-append p xs (x ∷ [])) ∙ e))
    where
      by_last : (list_any p xs ≡ true) ⊎ (p x || false ≡ true) → (list_any p xs ≡ true) ⊎ (p x ≡ true)
      by_last (inl before) = inl before
      by_last (inr last) = by_none (either (p x) false last)
        where
          by_none : (p x ≡ true) ⊎ (false ≡ true) → (list_any p xs ≡ true) ⊎ (p x ≡ true)
          by_none (inl is) = inr is
          by_none (inr false_is) = absurd cc

  any_behind : (most : ℕ) (xs : List A) (x : A) → list_any p (put_behind most xs x) ≡ true → (list_any p xs ≡ true) ⊎ (p x ≡ true)
  any_behind most xs x e = by_room (nat_lt (length xs) most) e
    where
      older : (list_any p (drop 1 xs) ≡ true) ⊎ (p x ≡ true) → (list_any p xs ≡ true) ⊎ (p x ≡ true)
      older (inl left) = inl (any_drop xs left)
      older (inr is) = inr is

      by_room : (b : Bool) → list_any p (cond b (xs ++ x ∷ []) (drop 1 xs ++ x ∷ [])) ≡ true → (list_any p xs ≡ true) ⊎ (p x ≡ true)
      by_room true e = any_last xs x e
      by_room false e = older (any_last (drop 1 xs) x e)

-- ---- what a frame leaves

module _ (n : ℕ) where
  abbrev of_mark : Mark → Bool
  of_mark m = m.key.number == n

  abbrev of_sent : SentChallenge → Bool
  of_sent s = s.number == n

  grown_same : (e : Exchange) (m : Mark) → of_mark (with_frame e m) ≡ of_mark m
  grown_same e m = by_test (m.length == e.length && is_none m.operation)
    where
      by_test : (b : Bool) → of_mark (cond b (record m { operation = e.operation }) m) ≡ of_mark m
      by_test true = refl
      by_test false = refl

  grown_any : (e : Exchange) (ms : List Mark) → list_any of_mark (with_frame_among e ms) ≡ list_any of_mark ms
  grown_any e [] = refl
  grown_any e (m ∷ ms) = by_test (is_of e.key m) (grown_any e ms)
    where
      by_test : (b : Bool) → list_any of_mark (with_frame_among e ms) ≡ list_any of_mark ms → list_any of_mark (cond b (with_frame e m ∷ ms) (m ∷ with_frame_among e ms)) ≡ of_mark m || list_any of_mark ms
      by_test true later = ap (λ (b : Bool). b || list_any of_mark ms) (grown_same e m)
      by_test false later = ap (λ (b : Bool). of_mark m || b) later

  piece_any : (e : Exchange) (ms : List Mark) → list_any of_mark (with_piece e ms) ≡ true → (list_any of_mark ms ≡ true) ⊎ (e.key.number == n ≡ true)
  piece_any e ms is = by_test (list_any (is_of e.key) ms) is
    where
      by_test : (b : Bool) → list_any of_mark (cond b (with_frame_among e ms) (put_behind 4 ms (first_mark e))) ≡ true → (list_any of_mark ms ≡ true) ⊎ (e.key.number == n ≡ true)
      by_test true is = inl (sym (grown_any e ms) ∙ is)
      by_test false is = any_behind of_mark 4 ms (first_mark e) is

  challenge_any : (number code session : ℕ) (ss : List SentChallenge) → list_any of_sent (add_challenge number code session ss) ≡ true → (list_any of_sent ss ≡ true) ⊎ (number == n ≡ true)
  challenge_any number code session ss is = by_test (code == 402) is
    where
      others : List SentChallenge
      others = filter (λ s. not (s.session == session)) ss

      older : (list_any of_sent others ≡ true) ⊎ (number == n ≡ true) → (list_any of_sent ss ≡ true) ⊎ (number == n ≡ true)
      older (inl left) = inl (any_filter of_sent (λ s. not (s.session == session)) ss left)
      older (inr is) = inr is

      by_test : (b : Bool) → list_any of_sent (cond b (put_behind 8 others (record { number = number; session = session })) ss) ≡ true → (list_any of_sent ss ≡ true) ⊎ (number == n ≡ true)
      by_test true is = older (any_behind of_sent 8 others (record { number = number; session = session }) is)
      by_test false is = inl is

  abbrev Held : Followed → Exchange → Type 0
  Held f e = (is_held f n ≡ true) ⊎ (e.key.number == n ≡ true)

  with_partials : (f : Followed) (e : Exchange) → (list_any of_mark f.partials ≡ true) ⊎ (e.key.number == n ≡ true) → Held f e
  with_partials f e (inl is) = inl (on_left (list_any of_mark f.partials) (list_any of_sent f.challenges) is)
  with_partials f e (inr is) = inr is

  with_challenges : (f : Followed) (e : Exchange) → (list_any of_sent f.challenges ≡ true) ⊎ (e.key.number == n ≡ true) → Held f e
  with_challenges f e (inl is) = inl (on_right (list_any of_mark f.partials) (list_any of_sent f.challenges) is)
  with_challenges f e (inr is) = inr is

  unanswered_held : (f : Followed) (e : Exchange) → is_held (leave_unanswered f e) n ≡ true → Held f e
  unanswered_held f e is = by_piece e.is_piece is
    where
      by_side : (list_any of_mark (with_piece e f.partials) ≡ true) ⊎ (list_any of_sent f.challenges ≡ true) → Held f e
      by_side (inl marks) = with_partials f e (piece_any e f.partials marks)
      by_side (inr sent) = with_challenges f e (inl sent)

      by_piece : (b : Bool) → is_held (cond b (record f { partials = with_piece e f.partials }) f) n ≡ true → Held f e
      by_piece true is = by_side (either (list_any of_mark (with_piece e f.partials)) (list_any of_sent f.challenges) is)
      by_piece false is = inl is

  answered_held : (f : Followed) (e : Exchange) (code session : ℕ) → is_held (leave_answered f e code session) n ≡ true → Held f e
  answered_held f e code session is = by_side (either (list_any of_mark (end_message e f.partials)) (list_any of_sent (add_challenge e.key.number code session left)) is)
    where
      left : List SentChallenge
      left = redeem e.key (operation_of e f.partials) code f.challenges

      by_left : (list_any of_sent left ≡ true) ⊎ (e.key.number == n ≡ true) → Held f e
      by_left (inl before) =
          with_challenges f e (inl (any_if of_sent (is_response (operation_of e f.partials) && not (code == 4)) (λ s. not (is_from e.key.number e.key.session s)) f.challenges before))
      by_left (inr here) = inr here

      by_side : (list_any of_mark (end_message e f.partials) ≡ true) ⊎ (list_any of_sent (add_challenge e.key.number code session left) ≡ true) → Held f e
      by_side (inl marks) = with_partials f e (inl (any_if of_mark e.is_piece (λ m. not (is_of e.key m)) f.partials marks))
      by_side (inr sent) = by_left (challenge_any e.key.number code session left sent)

  settled_held : (f : Followed) (e : Exchange) → is_held (finish_exchange f (Some e)) n ≡ true → Held f e
  settled_held f e is = by_reply e.reply is
    where
      by_busy : (b : Bool) (code session : ℕ) → is_held (cond b f (leave_answered f e code session)) n ≡ true → Held f e
      by_busy true code session is = inl is
      by_busy false code session is = answered_held f e code session is

      by_reply : (reply : Option (ℕ × ℕ)) → is_held (finish_by f e reply) n ≡ true → Held f e
      by_reply None is = unanswered_held f e is
      by_reply (Some reply) is = by_busy (reply.0 == 3) reply.0 reply.1 is

pub holds_what_comes : HoldsWhatComes
holds_what_comes f [] n is = on_left (is_held f n) false is
holds_what_comes f (e ∷ es) n is = by_rest (either (is_held (finish_exchange f (Some e)) n) (is_under_way es n) (holds_what_comes (finish_exchange f (Some e)) es n is))
  where
    by_first : (is_held f n ≡ true) ⊎ (e.key.number == n ≡ true) → is_held f n || (e.key.number == n || is_under_way es n) ≡ true
    by_first (inl before) = on_left (is_held f n) (e.key.number == n || is_under_way es n) before
    by_first (inr here) = on_right (is_held f n) (e.key.number == n || is_under_way es n) (on_left (e.key.number == n) (is_under_way es n) here)

    by_rest : (is_held (finish_exchange f (Some e)) n ≡ true) ⊎ (is_under_way es n ≡ true) → is_held f n || (e.key.number == n || is_under_way es n) ≡ true
    by_rest (inl first) = by_first (settled_held n f e first)
    by_rest (inr later) = on_right (is_held f n) (e.key.number == n || is_under_way es n) (on_right (e.key.number == n) (is_under_way es n) later)
