-- What a reply leaves of the challenges: the trail has it too.
use Rattle.std.proofs.Common.{◌≡◌, ℕ, ◌+◌, ◌-◌, ◌<◌, ◌≤◌, ◌^◌, Bool, true, false, not, ◌&&◌, cond, eqb, ltb, List, [], ◌∷◌, ◌++◌, length, map, filter, drop, Option, refl, sym, ap, ◌∙◌, arith}
use Rattle.std.specs.List.{AllByRecursion}
use Rattle.std.proofs.lemmas.Bool.{ltb-true, ltb-false, eqb-false}
use Rattle.std.proofs.lemmas.List.{length-append, length-map}
use Rattle.hdl_slots.specs.declared.pending.Pending.{Pending}
use Rattle.hdl_slots.specs.declared.pending.Challenge.{Challenge}
use Rattle.hdl_slots.specs.Lanes as slots
use Rattle.hdl_slots.specs.Lanes.{next_after, last_eight, without}
use Rattle.hdl_slots.proofs.LawLemmas.{at_most_eight_lem}
use Rattle.hdl_peers.specs.declared.kept.MessageKey.{MessageKey}
use Rattle.hdl_peers.specs.declared.kept.SentChallenge.{SentChallenge}
use Rattle.hdl_peers.specs.Followed.{put_behind, is_from, is_response, redeem, add_challenge}
use Rattle.hdl_value.specs.declared.wire.Wire.{Wire}
use Rattle.hdl_peers_laws.specs.Follows.{sent_of, CanBeRead}
use Rattle.hdl_peers_laws.proofs.Lists.{filter_seen, map_push, map_drop, each_filter, each_drop, each_push, length_filter}

pub spent_seen : (peer session : ℕ) (cs : List Challenge) → filter (λ t. not (is_from peer session t)) (map sent_of cs) ≡ map sent_of (filter (λ c. not (slots.is_of peer session c)) cs)
spent_seen peer session cs = filter_seen sent_of (λ t. not (is_from peer session t)) cs

drop_one : (xs : List Challenge) (x : Challenge) → 0 < length xs → drop 1 (xs ++ x ∷ []) ≡ drop 1 xs ++ x ∷ []
drop_one [] x some = absurd (omega arith)
drop_one (y ∷ ys) x some = refl

pushed_seen : (cs : List Challenge) (c : Challenge) → length cs ≤ 8 → put_behind 8 (map sent_of cs) (sent_of c) ≡ map sent_of (last_eight (cs ++ c ∷ []))
pushed_seen cs c few =
    ap (λ (n : ℕ). cond (ltb n 8) (map sent_of cs ++ sent_of c ∷ []) (drop 1 (map sent_of cs) ++ sent_of c ∷ [])) (length-map cs sent_of)
    ∙ by_test (ltb (length cs) 8) refl
  where
    by_test : (b : Bool) → ltb (length cs) 8 ≡ b → cond b (map sent_of cs ++ sent_of c ∷ []) (drop 1 (map sent_of cs) ++ sent_of c ∷ []) ≡ map sent_of (last_eight (cs ++ c ∷ []))
    by_test true less =
        let none : length (cs ++ c ∷ []) - 8 ≡ 0 = omega (arith, length-append cs (c ∷ []), ltb-true (length cs) 8 less) in
        sym (map_push sent_of cs c) ∙ ap (λ (n : ℕ). map sent_of (drop n (cs ++ c ∷ []))) (sym none)
    by_test false full =
        let one : length (cs ++ c ∷ []) - 8 ≡ 1 = omega (arith, length-append cs (c ∷ []), ltb-false (length cs) 8 full) in
        ap (λ (t : List SentChallenge). t ++ sent_of c ∷ []) (sym (map_drop sent_of 1 cs))
        ∙ sym (map_push sent_of (drop 1 cs) c)
        ∙ ap (map sent_of) (sym (drop_one cs c (omega (arith, ltb-false (length cs) 8 full))))
        ∙ ap (λ (n : ℕ). map sent_of (drop n (cs ++ c ∷ []))) (sym one)

-- the trail puts a challenge as the lane does
pub put_seen : (s : slots.LaneState) (p : Pending) → length s.challenges ≤ 8
    → put_behind 8 (filter (λ t. not (eqb t.session s.next)) (map sent_of s.challenges)) (record { number = p.peer; session = s.next }) ≡ map sent_of (slots.add_challenge s p).challenges
put_seen s p few =
    let left = filter_seen sent_of (λ t. not (eqb t.session s.next)) s.challenges in
    let fewer = length_filter (λ (c : Challenge). not (eqb c.number s.next)) s.challenges in
    let newest : Challenge = record { number = s.next; pending = p } in
    ap (λ (t : List SentChallenge). put_behind 8 t (sent_of newest)) left ∙ pushed_seen (without s.next s.challenges) newest (omega arith)

pub next_fits : (n : ℕ) → n < 2 ^ 32 → next_after n < 2 ^ 32
next_fits n fits = by_test (eqb n 4294967295) refl
  where
    by_test : (b : Bool) → eqb n 4294967295 ≡ b → cond b 1 (n + 1) < 2 ^ 32
    by_test true is = omega arith
    by_test false is = let other = eqb-false n 4294967295 is in omega arith

pub put_few : (s : slots.LaneState) (p : Pending) → length (slots.add_challenge s p).challenges ≤ 8
put_few s p = at_most_eight_lem s p

pub put_read : (wire : Wire) (s : slots.LaneState) (p : Pending) → AllByRecursion (CanBeRead wire) s.challenges → CanBeRead wire (record { number = s.next; pending = p }) → AllByRecursion (CanBeRead wire) (slots.add_challenge s p).challenges
put_read wire s p each here =
    let kept = without s.next s.challenges in
    let newest : Challenge = record { number = s.next; pending = p } in
    each_drop (CanBeRead wire) (length (kept ++ newest ∷ []) - 8) (kept ++ newest ∷ []) (each_push (CanBeRead wire) kept newest (each_filter (CanBeRead wire) (λ (c : Challenge). not (eqb c.number s.next)) s.challenges each) here)

-- ---- what the trail does

-- a reply that is no challenge, and answers no response or is out of the grammar, changes nothing
pub unchanged : (key : MessageKey) (operation : Option ℕ) (code session : ℕ) (ts : List SentChallenge) → eqb code 402 ≡ false → is_response operation && not (eqb code 4) ≡ false
    → add_challenge key.number code session (redeem key operation code ts) ≡ ts
unchanged key operation code session ts none other = rw (none, other) refl

-- one that answers a response spends its challenge
pub spends : (key : MessageKey) (operation : Option ℕ) (code session : ℕ) (ts : List SentChallenge) → eqb code 402 ≡ false → is_response operation && not (eqb code 4) ≡ true
    → add_challenge key.number code session (redeem key operation code ts) ≡ filter (λ t. not (is_from key.number key.session t)) ts
spends key operation code session ts none answers = rw (none, answers) refl

-- a challenge is put
pub puts : (key : MessageKey) (operation : Option ℕ) (session : ℕ) (ts : List SentChallenge) → is_response operation ≡ false
    → add_challenge key.number 402 session (redeem key operation 402 ts) ≡ put_behind 8 (filter (λ t. not (eqb t.session session)) ts) (record { number = key.number; session = session })
puts key operation session ts other = rw other refl
