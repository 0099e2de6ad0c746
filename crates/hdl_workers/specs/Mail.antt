-- What a datagram worker puts and sends, datagram by datagram.
use Rattle.std.specs.Prelude.{◌≡◌, ◌⊎◌, ℕ, ◌<◌, ◌≤◌, ◌^◌, ◌-◌, false, true, Option, Some, None, MatchOption, List, [], ◌∷◌, ◌++◌, length, map, drop}
use mathlib.Core.List.{IsPrefix}
use Rattle.hdl_frame.specs.Envelope.{envelope_at, is_truncated}
use Rattle.hdl_frame.specs.Frames.{IsFrame}
use Rattle.hdl_frame.specs.Pieces.{datagrams}
use Rattle.hdl_events.specs.declared.What.{What}
use Rattle.hdl_events.specs.declared.What.TheVariants.{Open, Frame, Bad, Close}
use Rattle.hdl_events.specs.declared.Outcome.{Outcome}
use Rattle.hdl_workers.specs.declared.door.Packets.{Ghosts}
use Rattle.hdl_workers.specs.declared.item.Item.{Item}
use Rattle.hdl_workers.specs.declared.item.Item.TheVariants.{Event, End}
use Rattle.hdl_workers.specs.declared.worker_lane.WorkerLane.{WorkerLane}
use Rattle.hdl_workers.specs.Octets.{octets_of}
use Rattle.hdl_workers.specs.Sign.{Sign, opened, framed, signs_of}
use Rattle.hdl_workers.specs.WorkerLane.{put_by, taken_by}

-- a Frame for each datagram that is one frame, in order
abbrev pub FramesOf : List (ℕ × List ℕ) → List Sign → Type 0
FramesOf [] signs = signs ≡ []
FramesOf (d ∷ ds) signs =
    ((IsFrame d.1 → ⊥) × FramesOf ds signs)
    ⊎ (IsFrame d.1 × ((later : List Sign) × (signs ≡ framed d.0 d.1 ∷ later) × FramesOf ds later))

-- the same, but perhaps for the last datagram
abbrev pub MostFramesOf : List (ℕ × List ℕ) → List Sign → Type 0
MostFramesOf received signs =
    FramesOf received signs
    ⊎ ((earlier : List (ℕ × List ℕ)) × (last : ℕ × List ℕ) × (received ≡ earlier ++ last ∷ []) × FramesOf earlier signs)

-- the datagrams that carry octets: their pieces where they are one whole message, else none
abbrev pub ArePieces : List ℕ → List (List ℕ × List ℕ) → Type 0
ArePieces octets ds =
    (IsFrame octets → is_truncated (envelope_at octets) ≡ false → ds ≡ datagrams (envelope_at octets) (drop 20 octets))
    × ((IsFrame octets → is_truncated (envelope_at octets) ≡ true) → ds ≡ [])

-- a datagram to this peer
abbrev pub to_peer : ℕ → List ℕ × List ℕ → ℕ × List ℕ
to_peer peer d = (peer, d.0 ++ d.1)

-- the count of faults rose, or could not
abbrev pub Failed : ℕ → ℕ → Type 0
Failed n m = (n < m) ⊎ (n ≡ 2 ^ 64 - 1)

-- Octets are sent as their pieces while the count of faults goes from n to m: all of them, or a beginning where one failed.
abbrev pub SendsReply : ℕ → List ℕ → List (ℕ × List ℕ) → ℕ → ℕ → Type 0
SendsReply peer octets sent n m =
    (ds : List (List ℕ × List ℕ)) × ArePieces octets ds × (n ≤ m)
    × ((sent ≡ map (to_peer peer) ds) ⊎ (IsPrefix sent (map (to_peer peer) ds) × Failed n m))

-- a beginning of them, the turns being spent
abbrev pub BeginsReply : ℕ → List ℕ → List (ℕ × List ℕ) → ℕ → ℕ → Type 0
BeginsReply peer octets sent n m =
    (ds : List (List ℕ × List ℕ)) × ArePieces octets ds × (n ≤ m) × IsPrefix sent (map (to_peer peer) ds)

-- who sent the frame that an item holds
abbrev pub peer_of_what : What → Option ℕ
peer_of_what Open = None
peer_of_what (Frame peer moment nonce bytes) = Some peer
peer_of_what (Bad session request) = None
peer_of_what Close = None

abbrev pub peer_of : Item → Option ℕ
peer_of (Event what) = peer_of_what what
peer_of End = None

-- an outcome is sent to the peer of its event; without a peer nothing is
abbrev pub Mails : Item → Outcome → List (ℕ × List ℕ) → ℕ → ℕ → Type 0
Mails item outcome sent n m = MatchOption (peer_of item) ((sent ≡ []) × (n ≤ m)) (λ peer. SendsReply peer (octets_of outcome) sent n m)

-- the nth outcome is that of the nth item, and they are sent in order
abbrev pub Mailed : List Item → List Outcome → List (ℕ × List ℕ) → ℕ → ℕ → Type 0
Mailed items [] sent n m = (sent ≡ []) × (n ≤ m)
Mailed [] (o ∷ os) sent n m = ⊥
Mailed (i ∷ is) (o ∷ os) sent n m =
    (first later : List (ℕ × List ℕ)) × (h k : ℕ) × (n ≤ h) × (sent ≡ first ++ later) × Mails i o first h k × Mailed is os later k m

-- the same, but of the last outcome perhaps a beginning was sent
abbrev pub MostMailed : List Item → List Outcome → List (ℕ × List ℕ) → ℕ → ℕ → Type 0
MostMailed items os sent n m =
    Mailed items os sent n m
    ⊎ ((before : List Outcome) × (last : Outcome) × (whole part rest : List (ℕ × List ℕ)) × (k : ℕ)
    × (os ≡ before ++ last ∷ []) × (sent ≡ whole ++ part) × Mailed items before whole n k × Mailed items os (sent ++ rest) n m)

-- each datagram that is one frame was put, and each reply was sent
abbrev pub Traded : List (ℕ × List ℕ) → List (ℕ × List ℕ) → ℕ → ℕ → List Item → List Outcome → Type 0
Traded received sent n m items os =
    (frames : List Sign) × (signs_of items ≡ opened ∷ frames) × FramesOf received frames × Mailed items os sent n m × (length os ≡ length items)

-- the turns may cut off the last of either
abbrev pub MostTraded : List (ℕ × List ℕ) → List (ℕ × List ℕ) → ℕ → ℕ → List Item → List Outcome → Type 0
MostTraded received sent n m items os =
    (frames : List Sign) × (signs_of items ≡ opened ∷ frames) × MostFramesOf received frames × MostMailed items os sent n m

-- and Open may be missing
abbrev pub Trades : List (ℕ × List ℕ) → List (ℕ × List ℕ) → ℕ → ℕ → List Item → List Outcome → Type 0
Trades received sent n m items os =
    ((received ≡ []) × (sent ≡ []) × (items ≡ []) × (os ≡ []))
    ⊎ MostTraded received sent n m items os

-- more was sent, which this holds of
abbrev pub Sends : (List (ℕ × List ℕ) → ℕ → ℕ → Type 0) → List (ℕ × List ℕ) → ℕ → List (ℕ × List ℕ) → ℕ → Type 0
Sends P old n new m = (more : List (ℕ × List ℕ)) × (new ≡ old ++ more) × P more n m

-- what a datagram worker has at a moment: the peers that wait for a reply, the items that it put, the datagrams that it sent, the count of faults, and the outcomes that it took
pub record Correspondence : Type 0 where
  pub peers : List ℕ
  pub items : List Item
  pub sent : List (ℕ × List ℕ)
  pub faults : ℕ
  pub outcomes : List Outcome

-- what it has by its lane and these peers, where it sent these datagrams and counted so many faults
abbrev pub correspondence_with : List (ℕ × List ℕ) → ℕ → WorkerLane → List ℕ → Correspondence
correspondence_with sent faults line peers = record { peers = peers; items = put_by line; sent = sent; faults = faults; outcomes = taken_by line }

-- the same, where the door tells what was sent and the count of faults
abbrev pub correspondence_at : {P : Type 0} → Ghosts P → P → WorkerLane → List ℕ → Correspondence
correspondence_at g packets line peers = correspondence_with (g.sent packets) (g.fault_count packets) line peers

-- from this count of faults on, each datagram that is one frame was put, and each reply was sent but to the peers that wait, the oldest first, whose frames have no outcome yet
abbrev pub Trading : List (ℕ × List ℕ) → ℕ → Correspondence → Type 0
Trading received n c =
    (frames : List Sign) × (signs_of c.items ≡ opened ∷ frames) × FramesOf received frames × Mailed c.items c.outcomes c.sent n c.faults
    × (map peer_of (drop (length c.outcomes) c.items) ≡ map Some c.peers)

-- with this datagram more is under way
abbrev pub TakesIn : ℕ × List ℕ → Correspondence → Correspondence → Type 0
TakesIn datagram before after =
    (received : List (ℕ × List ℕ)) (n : ℕ) → Trading received n before → Trading (received ++ datagram ∷ []) n after

-- with this datagram more is under way, or the turns cut it off
abbrev pub MayTakeIn : ℕ × List ℕ → Correspondence → Correspondence → Type 0
MayTakeIn datagram before after =
    (received : List (ℕ × List ℕ)) (n : ℕ) → Trading received n before → MostTraded (received ++ datagram ∷ []) after.sent n after.faults after.items after.outcomes

-- with what was sent less is under way
abbrev pub Replies : Correspondence → Correspondence → Type 0
Replies before after = (received : List (ℕ × List ℕ)) (n : ℕ) → Trading received n before → Trading received n after

-- with what was sent less is under way, or the turns cut it off
abbrev pub MayReply : Correspondence → Correspondence → Type 0
MayReply before after =
    (received : List (ℕ × List ℕ)) (n : ℕ) → Trading received n before → MostTraded received after.sent n after.faults after.items after.outcomes
