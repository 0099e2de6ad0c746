-- The trail follows the lane over each frame and its reply.
use Rattle.std.proofs.Common.{◌≡◌, ◌≢◌, inl, inr, ℕ, Bool, true, false, not, ◌||◌, cond, eqb, List, map, filter, find, drop, unwrap_or, Option, Some, None, refl, sym, ap, ◌∙◌, subst, MatchBool, Ordering, is_eq, ◌<◌, ◌^◌, arith}
use Rattle.std.specs.List.{list_any}
use Rattle.std.specs.Option.{option_and_then, option_or}
use Rattle.std.specs.FinMap as map
use Rattle.std.specs.Cmp.{nat_cmp_total, tied_itself}
use Rattle.hdl_auth.specs.declared.algorithm.Algorithm.{Algorithm}
use Rattle.hdl_frame.specs.Envelope.{envelope_at, is_truncated}
use Rattle.hdl_frame.specs.Frames.{IsFrame}
use Rattle.hdl_value.specs.declared.wire.Wire.{Wire}
use Rattle.hdl_rows.specs.Table.{Table}
use Rattle.hdl_msg.specs.Reply.{short_reply}
use Rattle.hdl_pool.specs.Partial as pool
use Rattle.hdl_pool.specs.Partial.{Partial, piece_of}
use Rattle.hdl_pool.specs.Taking.{take_piece, whole_message, free_partial}
use Rattle.hdl_events.specs.declared.What.{What}
use Rattle.hdl_events.specs.declared.Event.{Event}
use Rattle.hdl_events.specs.declared.Outcome.{Outcome}
use Rattle.hdl_events.specs.declared.Outcome.TheVariants.{Reply, Busy}
use Rattle.hdl_laws.specs.Lanes.{LaneState, fresh, with_partials}
use Rattle.hdl_laws.specs.LaneProfile.{LaneProfile}
use Rattle.hdl_laws.specs.Worlds.{World, owner, hosts, algorithms, lane_of, lane_profile, lane_profile_for}
use Rattle.hdl_laws.specs.Tasks.{Received, message_from, Task, Ignore, IsTask, IsMessageTask, IsWholeTask, IsPieceTask, IsFrameTask, IsOctetsTask}
use Rattle.hdl_laws.specs.Effects.{Effect, Does}
use Rattle.hdl_laws.specs.Steps.{Turn, IsAnswerFor, IsBusy, IsStep}
use Rattle.hdl_peers.specs.declared.kept.Mark.{Mark}
use Rattle.hdl_peers.specs.declared.kept.SentChallenge.{SentChallenge}
use Rattle.hdl_peers.specs.declared.exchange.Exchange.{Exchange}
use Rattle.hdl_peers.specs.Exchange.{number_at, reply_of}
use Rattle.hdl_peers.specs.Followed.{Followed, is_held, finish_exchange, leave_answered, leave_unanswered, with_piece, end_message, operation_of, redeem, add_challenge}
use Rattle.hdl_peers.specs.Followed as lane_history
use Rattle.hdl_peers.specs.Peers.{arrival}
use Rattle.hdl_peers_laws.specs.Follows.{Follows, IsInUse, IsPartial, mark_of, sent_of, datagrams_of, outcome_datagrams, answered_by}
use Rattle.hdl_peers_laws.specs.Laws.{BeginsFollowed, HoldsWhatIsKept, StepsFollowed}
use Rattle.hdl_peers_laws.proofs.Lists.{each_filter, list_any_seen}
use Rattle.hdl_peers_laws.proofs.Fronts.{number_drop, or_none}
use Rattle.hdl_peers_laws.proofs.Replies.{front, answered_is}
use Rattle.hdl_peers_laws.proofs.Partials.{freed_seen, piece_left, whole_left}
use Rattle.hdl_peers_laws.proofs.Messages.{Answered, message_answered, short_seen}

pub begins : BeginsFollowed
begins = record {
  follows = record { partials = refl; challenges = refl };
  in_use = λ wire. record { is_open = refl; partials = tt; next = omega arith; few = omega arith; challenges = tt };
}

-- what the trail has that follows the lane
abbrev view : LaneState → Followed
view s = record { partials = map mark_of s.partials; challenges = map sent_of s.challenges.challenges }

view_is : (f : Followed) (s : LaneState) → Follows f s → view s ≡ f
view_is f s is = λ i. record { partials = (sym is.partials) i; challenges = (sym is.challenges) i }

pub holds : HoldsWhatIsKept
holds f s number follows =
    ap (λ (g : Followed). is_held g number) (sym (view_is f s follows))
    ∙ ap (λ (b : Bool). b || list_any (λ (t : SentChallenge). eqb t.number number) (map sent_of s.challenges.challenges)) (list_any_seen mark_of (λ m. eqb m.key.number number) s.partials)
    ∙ ap (λ (b : Bool). list_any (λ (p : Partial). eqb p.key.peer number) s.partials || b) (list_any_seen sent_of (λ t. eqb t.number number) s.challenges.challenges)

-- the trail follows the lane after the effect
abbrev FollowsOn : Wire → Followed → Exchange → Effect → Type 0
FollowsOn wire f e eff = Follows (finish_exchange f (Some (answered_by (outcome_datagrams eff.outcome) e))) eff.state × IsInUse wire eff.state

-- ---- a frame that is answered

-- with this code and session
answered_with : (f : Followed) (e : Exchange) (octets : List ℕ) (o : Outcome) (code session : ℕ) → e.reply ≡ None → o ≡ Reply octets → reply_of (front octets) ≡ Some (code, session) → eqb code 3 ≡ false
    → finish_exchange f (Some (answered_by (outcome_datagrams o) e)) ≡ leave_answered f e code session
answered_with f e octets o code session none is seen calm =
    ap (λ (z : Outcome). finish_exchange f (Some (answered_by (outcome_datagrams z) e))) is
    ∙ ap (λ (z : Exchange). finish_exchange f (Some z)) (answered_is octets e (code, session) none seen)
    ∙ ap (λ (b : Bool). cond b f (leave_answered f e code session)) calm

module _ (lane_profile : LaneProfile) (hosted : List ℕ → Bool) (algorithms : List ℕ → Algorithm) (t : Table) (s : LaneState) (u : IsInUse lane_profile.wire s) (x : Received) (frame : IsFrame x.bytes) where
  abbrev e : Exchange
  e = arrival x.bytes x.peer

  abbrev marks : List Mark
  marks = map mark_of s.partials

  -- a message that is answered on a lane: the trail has its partial messages as the lane has, and knows the message's operation
  message_followed : (gone : LaneState) (message : List ℕ) (k : Task) (eff : Effect) → IsInUse lane_profile.wire gone → gone.challenges ≡ s.challenges → end_message e marks ≡ map mark_of gone.partials → operation_of e marks ≡ number_at message 0
      → IsMessageTask lane_profile gone (message_from x message) k → Does hosted algorithms t k eff → FollowsOn lane_profile.wire (view s) e eff
  message_followed gone message k eff used same ends knows task does =
      let ans : Answered lane_profile.wire gone (message_from x message) eff = message_answered lane_profile hosted algorithms t gone used (message_from x message) k eff task does in
      let settles : finish_exchange (view s) (Some (answered_by (outcome_datagrams eff.outcome) e)) ≡ leave_answered (view s) e ans.code ans.session =
      answered_with (view s) e ans.octets eff.outcome ans.code ans.session refl ans.outcome ans.seen ans.calm in (
        record {
          partials = ap (λ (g : Followed). g.partials) settles ∙ ends ∙ ap (map mark_of) (sym ans.partials);
          challenges =
              ap (λ (g : Followed). g.challenges) settles
              ∙ ap (λ (o : Option ℕ). add_challenge x.peer ans.code ans.session (redeem e.key o ans.code (map sent_of s.challenges.challenges))) knows
              ∙ sym (ap (λ c. add_challenge x.peer ans.code ans.session (redeem e.key (number_at message 0) ans.code (map sent_of c.challenges))) same)
              ∙ ans.challenges;
        },
        ans.in_use,
      )

  -- without TC
  single_followed : is_truncated (envelope_at x.bytes) ≡ false → (k : Task) (eff : Effect) → IsMessageTask lane_profile s (message_from x (drop 20 x.bytes)) k → Does hosted algorithms t k eff → FollowsOn lane_profile.wire (view s) e eff
  single_followed plain k eff task does =
      message_followed s (drop 20 x.bytes) k eff u refl
      (ap (λ (b : Bool). cond b (filter (λ m. not (lane_history.is_of e.key m)) marks) marks) plain)
      (ap (λ (b : Bool). option_or (cond (not b || eqb (envelope_at x.bytes).sequence 0) (number_at x.bytes 20) None) (cond b (option_and_then (λ (m : Mark). m.operation) (find (lane_history.is_of e.key) marks)) None)) plain
      ∙ or_none (number_at x.bytes 20) ∙ number_drop x.bytes)
      task does

  -- a piece that isn't answered
  piece_followed : is_truncated (envelope_at x.bytes) ≡ true → whole_message (take_piece s.partials (piece_of x.peer x.bytes)).0 ≡ None → (k : Task) (eff : Effect) → k ≡ Ignore (with_partials s (take_piece s.partials (piece_of x.peer x.bytes)).1) → Does hosted algorithms t k eff → FollowsOn lane_profile.wire (view s) e eff
  piece_followed truncated none k eff task does =
      let left = piece_left x.peer x.bytes frame truncated s.partials u.partials none in
      let done : Does hosted algorithms t (Ignore (with_partials s (take_piece s.partials (piece_of x.peer x.bytes)).1)) eff = subst (λ (j : Task). Does hosted algorithms t j eff) task does in
      subst (FollowsOn lane_profile.wire (view s) e) (sym done) ((
        record {
          partials = ap (λ (b : Bool). (cond {A = Followed} b (record (view s) { partials = with_piece e marks }) (view s)).partials) truncated ∙ left.0;
          challenges = ap (λ (b : Bool). (cond {A = Followed} b (record (view s) { partials = with_piece e marks }) (view s)).challenges) truncated;
        },
        record { is_open = u.is_open; partials = left.1; next = u.next; few = u.few; challenges = u.challenges },
      ))

  -- a piece that makes its message whole
  whole_followed : is_truncated (envelope_at x.bytes) ≡ true → (message : List ℕ) → whole_message (take_piece s.partials (piece_of x.peer x.bytes)).0 ≡ Some message → (k : Task) (eff : Effect)
      → IsMessageTask lane_profile (with_partials s (free_partial s.partials (pool.key_of x.peer (envelope_at x.bytes)))) (message_from x message) k → Does hosted algorithms t k eff → FollowsOn lane_profile.wire (view s) e eff
  whole_followed truncated message made k eff task does =
      let key = pool.key_of x.peer (envelope_at x.bytes) in
      message_followed (with_partials s (free_partial s.partials key)) message k eff
      (record { is_open = u.is_open; partials = each_filter IsPartial (λ (p : Partial). not (pool.is_of key p)) s.partials u.partials; next = u.next; few = u.few; challenges = u.challenges })
      refl
      (ap (λ (b : Bool). cond b (filter (λ m. not (lane_history.is_of e.key m)) marks) marks) truncated ∙ freed_seen x.peer x.bytes s.partials)
      (whole_left x.peer x.bytes frame truncated s.partials u.partials message made)
      task does

  frame_followed : (k : Task) (eff : Effect) → IsFrameTask lane_profile s x k → Does hosted algorithms t k eff → FollowsOn lane_profile.wire (view s) e eff
  frame_followed k eff task does = by_flag (is_truncated (envelope_at x.bytes)) refl task
    where
      by_whole : is_truncated (envelope_at x.bytes) ≡ true → (o : Option (List ℕ)) → whole_message (take_piece s.partials (piece_of x.peer x.bytes)).0 ≡ o
          → IsWholeTask lane_profile (with_partials s (take_piece s.partials (piece_of x.peer x.bytes)).1) (with_partials s (free_partial s.partials (pool.key_of x.peer (envelope_at x.bytes)))) x o k → FollowsOn lane_profile.wire (view s) e eff
      by_whole truncated None none task = piece_followed truncated none k eff task does
      by_whole truncated (Some message) made task = whole_followed truncated message made k eff task does

      by_flag : (b : Bool) → is_truncated (envelope_at x.bytes) ≡ b
          → MatchBool b (IsPieceTask lane_profile s x (take_piece s.partials (piece_of x.peer x.bytes)) k) (IsMessageTask lane_profile s (message_from x (drop 20 x.bytes)) k) → FollowsOn lane_profile.wire (view s) e eff
      by_flag true truncated task = by_whole truncated (whole_message (take_piece s.partials (piece_of x.peer x.bytes)).0) refl task
      by_flag false plain task = single_followed plain k eff task does

  pub event_followed : (k : Task) (eff : Effect) → IsTask lane_profile s (What.Frame x.peer x.moment x.nonce x.bytes) k → Does hosted algorithms t k eff → FollowsOn lane_profile.wire (view s) e eff
  event_followed k eff task does =
      let here : IsOctetsTask lane_profile s x k = subst (λ (b : Bool). MatchBool b (IsOctetsTask lane_profile s x k) (k ≡ Ignore s)) u.is_open task in
      by_frame here
    where
      by_frame : IsOctetsTask lane_profile s x k → FollowsOn lane_profile.wire (view s) e eff
      by_frame (inl a) = frame_followed k eff a.1 does
      by_frame (inr b) = absurd (b.0 frame)

-- ---- the world

after_is : (w : World) (lane : ℕ) (s : LaneState) → unwrap_or (map.get (map.insert w.lanes lane s) lane) (fresh false) ≡ s
after_is w lane s =
    ap (λ (o : Option LaneState). unwrap_or o (fresh false))
    (map.get-insert nat_cmp_total w.lanes lane s lane ∙ ap (λ (r : Ordering). cond (is_eq r) (Some s) (map.get w.lanes lane)) (tied_itself nat_cmp_total lane))

module _ (w : World) (lane peer moment : ℕ) (nonce octets : List ℕ) (f : Followed) (frame : IsFrame octets) (owned : owner w.site lane ≢ None) (used : IsInUse (lane_profile_for w.site (owner w.site lane)).wire (lane_of w lane)) (follows : Follows f (lane_of w lane)) where
  abbrev event : Event
  event = record { lane = lane; what = What.Frame peer moment nonce octets }

  -- the trail follows the lane of this world once the outcome is seen
  abbrev FollowsAfter : Outcome → World → Type 0
  FollowsAfter o new = Follows (finish_exchange f (Some (answered_by (outcome_datagrams o) (arrival octets peer)))) (lane_of new lane) × IsInUse (lane_profile_for w.site (owner w.site lane)).wire (lane_of new lane)

  answer_followed : (t : Turn) → t.event ≡ event → (o : Option ℕ) → owner w.site lane ≡ o → IsAnswerFor w o t → FollowsAfter t.outcome t.after
  answer_followed t same None none is = absurd (owned none)
  answer_followed t same (Some publisher) of is =
      let x : Received = record { peer = peer; moment = moment; nonce = nonce; bytes = octets } in
      let eff : Effect = is.0 in
      let lanes_speech : LaneProfile = lane_profile_for w.site (owner w.site lane) in
      let there : IsTask (lane_profile w.site publisher) (lane_of w lane) (What.Frame peer moment nonce octets) is.1 = subst (λ (z : Event). IsTask (lane_profile w.site publisher) (lane_of w z.lane) z.what is.1) same is.2 in
      let task : IsTask lanes_speech (lane_of w lane) (What.Frame peer moment nonce octets) is.1 = subst (λ (l : LaneProfile). IsTask l (lane_of w lane) (What.Frame peer moment nonce octets) is.1) (sym (ap (lane_profile_for w.site) of)) there in
      let on : FollowsOn lanes_speech.wire (view (lane_of w lane)) (arrival octets peer) eff = event_followed lanes_speech (hosts w.site publisher) (algorithms w.site publisher) w.table (lane_of w lane) used x frame is.1 eff task is.3 in
      let here : FollowsOn lanes_speech.wire f (arrival octets peer) eff = subst (λ (g : Followed). FollowsOn lanes_speech.wire g (arrival octets peer) eff) (view_is f (lane_of w lane) follows) on in
      let state : lane_of t.after lane ≡ eff.state =
      ap (λ (z : Turn). lane_of z.after lane) is.4 ∙ ap (λ (z : Event). unwrap_or (map.get (map.insert w.lanes z.lane eff.state) lane) (fresh false)) same ∙ after_is w lane eff.state in
      let outcome : t.outcome ≡ eff.outcome = ap (λ (z : Turn). z.outcome) is.4 in
      subst (λ (o : Outcome). Follows (finish_exchange f (Some (answered_by (outcome_datagrams o) (arrival octets peer)))) (lane_of t.after lane) × IsInUse lanes_speech.wire (lane_of t.after lane)) (sym outcome)
      (subst (λ (z : LaneState). Follows (finish_exchange f (Some (answered_by (outcome_datagrams eff.outcome) (arrival octets peer)))) z × IsInUse lanes_speech.wire z) (sym state) here)

  busy_followed : (t : Turn) → IsBusy w t → FollowsAfter t.outcome t.after
  busy_followed t is =
      let short : List ℕ = short_reply 3 (envelope_at is.received.bytes) in
      let e : Exchange = arrival octets peer in
      let seen = short_seen 3 (envelope_at is.received.bytes) (code_fits_busy) in
      let settles : finish_exchange f (Some (answered_by (datagrams_of short) e)) ≡ f = ap (λ (z : Exchange). finish_exchange f (Some z)) (answered_is short e _ refl seen) in
      let outcome : t.outcome ≡ Busy short = ap (λ (z : Turn). z.outcome) is.busy in
      let after : t.after ≡ w = ap (λ (z : Turn). z.after) is.busy in
      subst (λ (o : Outcome). FollowsAfter o t.after) (sym outcome)
      (subst (λ (z : World). FollowsAfter (Busy short) z) (sym after)
      ((subst (λ (g : Followed). Follows g (lane_of w lane)) (sym settles) follows, used)))
    where
      code_fits_busy : 3 < 2 ^ 32
      code_fits_busy = omega arith

  turn_followed : (t : Turn) → t.event ≡ event → IsStep w t → FollowsAfter t.outcome t.after
  turn_followed t same (inl answer) = answer_followed t same (owner w.site lane) refl (subst (λ (z : Event). IsAnswerFor w (owner w.site z.lane) t) same answer)
  turn_followed t same (inr busy) = busy_followed t busy

pub steps_followed : StepsFollowed
steps_followed w new lane peer moment nonce octets o f frame owned used follows steps =
    let on = turn_followed w lane peer moment nonce octets f frame owned used follows steps.0 steps.2 steps.1 in
    subst (λ (z : World). FollowsAfter w lane peer moment nonce octets f frame owned used follows o z) steps.4
    (subst (λ (z : Outcome). FollowsAfter w lane peer moment nonce octets f frame owned used follows z steps.0.after) steps.3 on)
