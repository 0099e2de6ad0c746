-- Datagrams and replies, one after the other.
use Rattle.std.proofs.Common.{◌≡◌, ◌⊎◌, inl, inr, ℕ, ◌+◌, ◌<◌, ◌≤◌, ◌^◌, ◌-◌, suc, Bor, true, ◌==◌, Option, Some, All, List, [], ◌∷◌, ◌++◌, length, map, drop, zero, remove, slice_index_or, refl, ap, sym, append_assoc, append-nil, length-append, ◌∙◌, arith}
use Rattle.std.proofs.lemmas.Bool.{eqb-true}
use Rattle.std.proofs.lemmas.List.{map-append, drop-append-le, drop_all, length-map, length-drop}
use Rattle.std.proofs.lemmas.List.Elements.{All-head, All-tail}
use mathlib.Core.List.{IsPrefix}
use Rattle.hdl_limits.specs.declared.TheConstants.{PIECE_LEN}
use Rattle.hdl_frame.specs.Frames.{IsFrame}
use Rattle.hdl_events.specs.declared.Outcome.{Outcome}
use Rattle.hdl_events.specs.declared.What.TheVariants.{Open, Frame, Bad, Close}
use Rattle.hdl_workers.specs.declared.door.Packets.{Ghosts}
use Rattle.hdl_workers.specs.declared.item.Item.{Item}
use Rattle.hdl_workers.specs.declared.item.Item.TheVariants.{Event, End}
use Rattle.hdl_workers.specs.declared.worker_lane.WorkerLane.{WorkerLane}
use Rattle.hdl_workers.specs.Octets.{octets_of}
use Rattle.hdl_workers.specs.Sign.{Sign, opened, framed, faulty, closed, finished, sign_of, signs_of, PutOne}
use Rattle.hdl_workers.specs.Mail.{FramesOf, to_peer, Failed, ArePieces, SendsReply, BeginsReply, Mails, Mailed, Traded, peer_of, Correspondence, correspondence_at, Trading, TakesIn, Replies, MayReply, Sends}
use Rattle.hdl_workers.specs.WorkerLane.{put_by, taken_by}

peer_in : Sign → ℕ
peer_in (framed p b) = p
peer_in opened = 0
peer_in (faulty a b) = 0
peer_in closed = 0
peer_in finished = 0

-- a datagram that is no frame
pub frames_passed : (ds : List (ℕ × List ℕ)) (d : ℕ × List ℕ) (signs : List Sign) → FramesOf ds signs → (IsFrame d.1 → ⊥) → FramesOf (ds ++ d ∷ []) signs
frames_passed [] d signs none not = inl (not, none)
frames_passed (e ∷ ds) d signs (inl (other, rest)) not = inl (other, frames_passed ds d signs rest not)
frames_passed (e ∷ ds) d signs (inr (is, (later, shown, rest))) not = inr (is, (later, shown, frames_passed ds d later rest not))

-- a datagram that is one
pub frames_more : (ds : List (ℕ × List ℕ)) (d : ℕ × List ℕ) (signs : List Sign) → FramesOf ds signs → IsFrame d.1 → FramesOf (ds ++ d ∷ []) (signs ++ framed d.0 d.1 ∷ [])
frames_more [] d signs none is = inr (is, ([], ap (λ w. w ++ framed d.0 d.1 ∷ []) none, refl))
frames_more (e ∷ ds) d signs (inl (other, rest)) is = inl (other, frames_more ds d signs rest is)
frames_more (e ∷ ds) d signs (inr (one, (later, shown, rest))) is =
    inr (one, (later ++ framed d.0 d.1 ∷ [], ap (λ w. w ++ framed d.0 d.1 ∷ []) shown, frames_more ds d later rest is))

-- more items were put
pub mailed_put : (items more : List Item) (os : List Outcome) (sent : List (ℕ × List ℕ)) (n m : ℕ) → Mailed items os sent n m → Mailed (items ++ more) os sent n m
mailed_put items more [] sent n m all = all
mailed_put [] more (o ∷ os) sent n m all = absurd all
mailed_put (i ∷ is) more (o ∷ os) sent n m (first, later, h, k, up, e, one, rest) = (first, later, h, k, up, e, one, mailed_put is more os later k m rest)

-- no more outcomes are sent than there are items
mailed_long : (items : List Item) (os : List Outcome) (sent : List (ℕ × List ℕ)) (n m : ℕ) → Mailed items os sent n m → length os ≤ length items
mailed_long items [] sent n m all = omega arith
mailed_long [] (o ∷ os) sent n m all = absurd all
mailed_long (i ∷ is) (o ∷ os) sent n m (first, later, h, k, up, e, one, rest) = let le = mailed_long is os later k m rest in omega arith

-- the outcome of the first item without one was sent
pub mailed_more : (items : List Item) (os : List Outcome) (sent more : List (ℕ × List ℕ)) (n m p : ℕ) (i : Item) (left : List Item) (o : Outcome)
    → Mailed items os sent n m → drop (length os) items ≡ i ∷ left → Mails i o more m p → Mailed items (os ++ o ∷ []) (sent ++ more) n p
mailed_more [] [] sent more n m p i left o all at one = absurd cc
mailed_more (j ∷ is) [] sent more n m p i left o (none, le) at one =
    let same : j ≡ i = cc in
    let one' : Mails j o more m p = rw same one in
    rw none (more, [], m, p, le, sym (append-nil more), one', (refl, omega arith))
mailed_more [] (q ∷ os) sent more n m p i left o all at one = absurd all
mailed_more (j ∷ is) (q ∷ os) sent more n m p i left o (first, later, h, k, up, e, this, rest) at one = (
  first,
  later ++ more,
  h,
  k,
  up,
  ap (λ w. w ++ more) e ∙ append_assoc first later more,
  this,
  mailed_more is os later more k m p i left o rest at one,
)

drop_next : (items : List Item) (k : ℕ) (i : Item) (left : List Item) → drop k items ≡ i ∷ left → drop (suc k) items ≡ left
drop_next [] zero i left e = absurd cc
drop_next (j ∷ is) zero i left e = cc
drop_next [] (suc k) i left e = absurd cc
drop_next (j ∷ is) (suc k) i left e = drop_next is k i left e

framed_peer : (p q : ℕ) (b c : List ℕ) → framed p b ≡ framed q c → p ≡ q
unfolding peer_in
framed_peer p q b c e = ap peer_in e

peer_framed : (i : Item) (peer : ℕ) (bytes : List ℕ) → sign_of i ≡ framed peer bytes → peer_of i ≡ Some peer
peer_framed (Event Open) peer bytes e = absurd cc
peer_framed (Event (Frame q moment nonce b)) peer bytes e = ap Some (framed_peer q peer b bytes e)
peer_framed (Event (Bad a b)) peer bytes e = absurd cc
peer_framed (Event Close) peer bytes e = absurd cc
peer_framed End peer bytes e = absurd cc

-- what is sent of the outcome of a frame
mails_frame : (i : Item) (peer : ℕ) (o : Outcome) (more : List (ℕ × List ℕ)) (n m : ℕ) → peer_of i ≡ Some peer → SendsReply peer (octets_of o) more n m → Mails i o more n m
mails_frame i peer o more n m e s = rw e s

-- the last datagram was dropped
pub passed : (d : ℕ × List ℕ) (c : Correspondence) → (IsFrame d.1 → ⊥) → TakesIn d c c
passed d c not received n (frames, shown, far, mailed, way) = (frames, shown, frames_passed received d frames far not, mailed, way)

-- the last datagram was put
put_signs : (frames : List Sign) (items items' : List Item) (s : Sign) → signs_of items ≡ opened ∷ frames → PutOne s items items' → signs_of items' ≡ opened ∷ (frames ++ s ∷ [])
put_signs frames items items' s shown (item, e, is) =
    ap signs_of e ∙ map-append sign_of items (item ∷ []) ∙ ap (λ w. w ++ sign_of item ∷ []) shown ∙ ap (λ (w : Sign). (opened ∷ frames) ++ w ∷ []) is

-- one more item was put, for whose frame this peer waits
abbrev pub with_frame : Correspondence → ℕ → List Item → Correspondence
with_frame c peer items = record { peers = c.peers ++ peer ∷ []; items = items; sent = c.sent; faults = c.faults; outcomes = c.outcomes }

pub taken_in : (d : ℕ × List ℕ) (c : Correspondence) (items : List Item) → IsFrame d.1 → PutOne (framed d.0 d.1) c.items items → TakesIn d c (with_frame c d.0 items)
taken_in d c items is put received n (frames, shown, far, mailed, way) =
    let le = mailed_long c.items c.outcomes c.sent n c.faults mailed in
    let mailed' : Mailed items c.outcomes c.sent n c.faults = rw put.1 (mailed_put c.items (put.0 ∷ []) c.outcomes c.sent n c.faults mailed) in
    let left : drop (length c.outcomes) items ≡ drop (length c.outcomes) c.items ++ put.0 ∷ [] = ap (drop (length c.outcomes)) put.1 ∙ drop-append-le (length c.outcomes) c.items (put.0 ∷ []) le in
    let way' : map peer_of (drop (length c.outcomes) items) ≡ map Some (c.peers ++ d.0 ∷ []) =
    ap (map peer_of) left ∙ map-append peer_of (drop (length c.outcomes) c.items) (put.0 ∷ []) ∙ ap (λ w. w ++ peer_of put.0 ∷ []) way
    ∙ ap (λ (w : Option ℕ). map Some c.peers ++ w ∷ []) (peer_framed put.0 d.0 d.1 put.2) ∙ sym (map-append Some c.peers (d.0 ∷ [])) in
    (frames ++ framed d.0 d.1 ∷ [], put_signs frames c.items items (framed d.0 d.1) shown put, frames_more received d frames far is, mailed', way')

-- the first item without an outcome is that of the peer that waits longest
first_waits : (peer : ℕ) (peers : List ℕ) (items : List Item) → map peer_of items ≡ Some peer ∷ map Some peers → (i : Item) × (left : List Item) × (items ≡ i ∷ left) × (peer_of i ≡ Some peer) × (map peer_of left ≡ map Some peers)
first_waits peer peers [] e = absurd cc
first_waits peer peers (i ∷ left) e = (i, left, refl, cc, cc)

pub replied : (peer : ℕ) (before after : Correspondence) (o : Outcome) → before.peers ≡ peer ∷ after.peers → after.items ≡ before.items → after.outcomes ≡ before.outcomes ++ o ∷ []
    → Sends (SendsReply peer (octets_of o)) before.sent before.faults after.sent after.faults → Replies before after
replied peer before after o first put q (more, w, sends) received n (frames, shown, far, mailed, way) =
    let (i, left, at, of, rest) = first_waits peer after.peers (drop (length before.outcomes) before.items) (way ∙ ap (map Some) first) in
    let one = mails_frame i peer o more before.faults after.faults of sends in
    let mailed' : Mailed after.items after.outcomes after.sent n after.faults =
    rw (put, q, w) (mailed_more before.items before.outcomes before.sent more n before.faults after.faults i left o mailed at one) in
    let long = ap length q ∙ length-append before.outcomes (o ∷ []) in
    let count : length after.outcomes ≡ suc (length before.outcomes) = omega arith in
    let way' : map peer_of (drop (length after.outcomes) after.items) ≡ map Some after.peers =
    rw (put, count) (ap (map peer_of) (drop_next before.items (length before.outcomes) i left at) ∙ rest) in
    (frames, ap signs_of put ∙ shown, far, mailed', way')

-- a beginning of its reply was sent
pub replied_part : (peer : ℕ) (before after : Correspondence) (o : Outcome) → before.peers ≡ peer ∷ after.peers → after.items ≡ before.items → after.outcomes ≡ before.outcomes ++ o ∷ []
    → Sends (BeginsReply peer (octets_of o)) before.sent before.faults after.sent after.faults → MayReply before after
replied_part peer before after o first put q (more, w, (ds, are, le, (rest, x))) received n (frames, shown, far, mailed, way) =
    let (i, left, at, of, others) = first_waits peer after.peers (drop (length before.outcomes) before.items) (way ∙ ap (map Some) first) in
    let whole = map (to_peer peer) ds in
    let one = mails_frame i peer o whole before.faults after.faults of (ds, are, le, inl refl) in
    let same : after.sent ++ rest ≡ before.sent ++ whole = ap (λ z. z ++ rest) w ∙ append_assoc before.sent more rest ∙ ap (λ z. before.sent ++ z) x in
    let all : Mailed after.items after.outcomes (after.sent ++ rest) n after.faults =
    rw (put, q, same) (mailed_more before.items before.outcomes before.sent whole n before.faults after.faults i left o mailed at one) in
    let earlier : Mailed after.items before.outcomes before.sent n before.faults = rw put mailed in
    (frames, ap signs_of put ∙ shown, inl far, inr (before.outcomes, o, before.sent, more, rest, before.faults, q, w, earlier, all))

-- the peer that is taken out is the first
pub first_out : (peers left : List ℕ) (peer : ℕ) → 0 < length peers → peer ≡ slice_index_or peers 0 peer → left ≡ remove peers 0 → peers ≡ peer ∷ left
first_out [] left peer some is e = absurd (omega arith)
first_out (p ∷ ps) left peer some is e = rw (is, e) refl

pub none_waits : (peers : List ℕ) → length peers == 0 ≡ true → peers ≡ []
none_waits [] e = refl
none_waits (p ∷ ps) e = absurd (omega (arith, eqb-true (length (p ∷ ps)) 0 e))

-- nothing is under way where each item has its outcome, and else it isn't so
pub trading_of : (received : List (ℕ × List ℕ)) (n : ℕ) (c : Correspondence) → c.peers ≡ [] → Traded received c.sent n c.faults c.items c.outcomes → Trading received n c
trading_of received n c none (frames, shown, far, mailed, len) =
    (frames, shown, far, mailed, ap (map peer_of) (drop_all (length c.outcomes) c.items (omega arith)) ∙ sym (ap (map Some) none))

pub traded_of : (received : List (ℕ × List ℕ)) (n : ℕ) (c : Correspondence) → c.peers ≡ [] → Trading received n c → Traded received c.sent n c.faults c.items c.outcomes
traded_of received n c none (frames, shown, far, mailed, way) =
    let le = mailed_long c.items c.outcomes c.sent n c.faults mailed in
    let all : length (map peer_of (drop (length c.outcomes) c.items)) ≡ 0 = ap length (way ∙ ap (map Some) none) in
    let long = length-map (drop (length c.outcomes) c.items) peer_of in
    let left = length-drop (length c.outcomes) c.items in
    let len : length c.outcomes ≡ length c.items = omega arith in
    (frames, shown, far, mailed, len)

-- Open, and its outcome
pub begun : (items : List Item) (os : List Outcome) (o : Outcome) (n : ℕ) → items ≡ Event Open ∷ [] → os ≡ o ∷ [] → Traded [] [] n n items os
begun items os o n e f = rw (e, f) ([], refl, refl, ([], [], n, n, omega arith, refl, (refl, omega arith), (refl, omega arith)), refl)

-- receives that failed are counted too
mailed_later : (items : List Item) (os : List Outcome) (sent : List (ℕ × List ℕ)) (n m p : ℕ) → Mailed items os sent n m → m ≤ p → Mailed items os sent n p
mailed_later items [] sent n m p (e, le) up = (e, omega arith)
mailed_later [] (o ∷ os) sent n m p all up = absurd all
mailed_later (i ∷ is) (o ∷ os) sent n m p (first, later, h, k, to, e, this, rest) up = (first, later, h, k, to, e, this, mailed_later is os later k m p rest up)

pub trading_later : {P : Type 0} (g : Ghosts P) (before after : P) (line : WorkerLane) (peers : List ℕ) (received : List (ℕ × List ℕ)) (n : ℕ) → Trading received n (correspondence_at g before line peers)
    → g.sent after ≡ g.sent before → g.fault_count before ≤ g.fault_count after → Trading received n (correspondence_at g after line peers)
trading_later g before after line peers received n (frames, shown, far, mailed, way) same up =
    let mailed' : Mailed (put_by line) (taken_by line) (g.sent after) n (g.fault_count after) =
    rw same (mailed_later (put_by line) (taken_by line) (g.sent before) n (g.fault_count before) (g.fault_count after) mailed up) in
    (frames, shown, far, mailed', way)

-- the pieces that an iterator gave, by their octets
abbrev pub seen : List (List ℕ × Bor (List ℕ)) → List (List ℕ × List ℕ)
seen ps = map (λ p. (p.0, p.1.now)) ps

-- the datagrams of a reply
pub went_one : (peer : ℕ) (done : List (List ℕ × List ℕ)) (d : List ℕ × List ℕ) (old new last : List (ℕ × List ℕ)) → new ≡ old ++ map (to_peer peer) done → last ≡ new ++ to_peer peer d ∷ []
    → last ≡ old ++ map (to_peer peer) (done ++ d ∷ [])
went_one peer done d old new last f g =
    g ∙ ap (λ w. w ++ to_peer peer d ∷ []) f ∙ append_assoc old (map (to_peer peer) done) (to_peer peer d ∷ []) ∙ ap (λ w. old ++ w) (sym (map-append (to_peer peer) done (d ∷ [])))

pub went_all : (peer : ℕ) (octets : List ℕ) (ds : List (List ℕ × List ℕ)) (old new : List (ℕ × List ℕ)) (n m : ℕ) → ArePieces octets ds → new ≡ old ++ map (to_peer peer) ds → n ≤ m → Sends (SendsReply peer octets) old n new m
went_all peer octets ds old new n m are e le = (map (to_peer peer) ds, e, (ds, are, le, inl refl))

begins : (peer : ℕ) (ds done left : List (List ℕ × List ℕ)) → ds ≡ done ++ left → IsPrefix (map (to_peer peer) done) (map (to_peer peer) ds)
begins peer ds done left e = (map (to_peer peer) left, sym (map-append (to_peer peer) done left) ∙ ap (map (to_peer peer)) (sym e))

pub went_some : (peer : ℕ) (octets : List ℕ) (ds done left : List (List ℕ × List ℕ)) (old new : List (ℕ × List ℕ)) (n m : ℕ) → ArePieces octets ds → ds ≡ done ++ left → new ≡ old ++ map (to_peer peer) done → n ≤ m
    → Sends (BeginsReply peer octets) old n new m
went_some peer octets ds done left old new n m are e f le = (map (to_peer peer) done, f, (ds, are, le, begins peer ds done left e))

pub went_to_fault : (peer : ℕ) (octets : List ℕ) (ds done left : List (List ℕ × List ℕ)) (old new : List (ℕ × List ℕ)) (n m : ℕ) → ArePieces octets ds → ds ≡ done ++ left → new ≡ old ++ map (to_peer peer) done → n ≤ m → Failed n m
    → Sends (SendsReply peer octets) old n new m
went_to_fault peer octets ds done left old new n m are e f le failed = (map (to_peer peer) done, f, (ds, are, le, inr (begins peer ds done left e, failed)))

pub part_of_whole : (peer : ℕ) (octets : List ℕ) (old new : List (ℕ × List ℕ)) (n m : ℕ) → Sends (SendsReply peer octets) old n new m → Sends (BeginsReply peer octets) old n new m
part_of_whole peer octets old new n m (more, e, (ds, are, le, inl all)) = (more, e, (ds, are, le, ([], append-nil more ∙ all)))
part_of_whole peer octets old new n m (more, e, (ds, are, le, inr (part, failed))) = (more, e, (ds, are, le, part))

-- one more piece was given
pub seen_more : (ys : List (List ℕ × Bor (List ℕ))) (p : List ℕ × Bor (List ℕ)) (left left' all : List (List ℕ × List ℕ)) → seen ys ++ left ≡ all → left ≡ (p.0, p.1.now) ∷ left' → seen (ys ++ p ∷ []) ++ left' ≡ all
seen_more ys p left left' all e f =
    ap (λ w. w ++ left') (map-append (λ (q : List ℕ × Bor (List ℕ)). (q.0, q.1.now)) ys (p ∷ [])) ∙ append_assoc (seen ys) ((p.0, p.1.now) ∷ []) left' ∙ ap (λ w. seen ys ++ w) (sym f) ∙ e

pub sent_more : (peer : ℕ) (ys : List (List ℕ × Bor (List ℕ))) (p : List ℕ × Bor (List ℕ)) (old new last : List (ℕ × List ℕ)) → new ≡ old ++ map (to_peer peer) (seen ys) → last ≡ new ++ to_peer peer (p.0, p.1.now) ∷ []
    → last ≡ old ++ map (to_peer peer) (seen (ys ++ p ∷ []))
sent_more peer ys p old new last f g =
    went_one peer (seen ys) (p.0, p.1.now) old new last f g ∙ ap (λ w. old ++ map (to_peer peer) w) (sym (map-append (λ (q : List ℕ × Bor (List ℕ)). (q.0, q.1.now)) ys (p ∷ [])))

-- what is given is short
All-append-right : (xs ys : List (List ℕ × List ℕ)) → All (λ (p : List ℕ × List ℕ). length p.1 ≤ PIECE_LEN) (xs ++ ys) → All (λ (p : List ℕ × List ℕ). length p.1 ≤ PIECE_LEN) ys
All-append-right [] ys all = all
All-append-right (x ∷ xs) ys all = All-append-right xs ys (All-tail (λ (p : List ℕ × List ℕ). length p.1 ≤ PIECE_LEN) x (xs ++ ys) all)

pub short_at : (done left left' all : List (List ℕ × List ℕ)) (d : List ℕ × List ℕ) → All (λ (p : List ℕ × List ℕ). length p.1 ≤ PIECE_LEN) all → done ++ left ≡ all → left ≡ d ∷ left' → length d.1 ≤ PIECE_LEN
short_at done left left' all d short e f =
    let whole : all ≡ done ++ d ∷ left' = sym e ∙ ap (λ w. done ++ w) f in
    let short' : All (λ (p : List ℕ × List ℕ). length p.1 ≤ PIECE_LEN) (done ++ d ∷ left') = rw (← whole) short in
    All-head (λ (p : List ℕ × List ℕ). length p.1 ≤ PIECE_LEN) d left' (All-append-right done (d ∷ left') short')

-- a send that failed
pub failed_by : (i l n : ℕ) → l ≡ i → ((n ≡ l + 1) ⊎ ((l ≡ 2 ^ 64 - 1) × (n ≡ l))) → Failed i n
failed_by i l n e (inl up) = inl (omega arith)
failed_by i l n e (inr (max, same)) = inr (sym e ∙ max)

pub later_by : (i l n : ℕ) → l ≡ i → ((n ≡ l + 1) ⊎ ((l ≡ 2 ^ 64 - 1) × (n ≡ l))) → i ≤ n
later_by i l n e (inl up) = omega arith
later_by i l n e (inr (max, same)) = omega arith
