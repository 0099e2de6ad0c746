-- What comes of octets on an open lane, and of an event of a lane.
use Rattle.std.proofs.Common.{◌≡◌, ℕ, List, Bool, true, false, cond, drop, Option, Some, None, Result, Ok, Err, refl, sym, ap, ◌∙◌, subst, inl, inr, MatchBool}
use Rattle.hdl_auth.specs.declared.algorithm.Algorithm.{Algorithm}
use Rattle.hdl_frame.specs.declared.envelope.Envelope.{Envelope}
use Rattle.hdl_frame.specs.declared.frame.Frame.{Frame}
use Rattle.hdl_frame.specs.Envelope.{envelope_at, is_truncated, message_envelope}
use Rattle.hdl_frame.specs.Frames.{IsFrame}
use Rattle.hdl_frame.specs.Splitting.{IsFrameOf}
use Rattle.hdl_msg.specs.Reply.{short_reply, IsReplyFrame}
use Rattle.hdl_msg.proofs.ReplyReadings.{short_reply_read}
use Rattle.hdl_laws.specs.LaneProfile.{LaneProfile}
use Rattle.hdl_rows.specs.Table.{Table}
use Rattle.hdl_events.specs.declared.What.{What}
use Rattle.hdl_events.specs.declared.What.TheVariants.{Open, Bad, Close}
use Rattle.hdl_events.specs.declared.Outcome.{Outcome}
use Rattle.hdl_events.specs.declared.Outcome.TheVariants.{Reply, Busy, Silent, CloseAfter}
use Rattle.hdl_laws.specs.Lanes.{LaneState, fresh}
use Rattle.hdl_laws.specs.Reveals.{IsReadable}
use Rattle.hdl_laws.specs.Tasks as tasks
use Rattle.hdl_laws.specs.Tasks.{Received, Task, Ignore, Break, IsFrameTask, IsOctetsTask}
use Rattle.hdl_laws.specs.Steps.{what_of}
use Rattle.hdl_core.specs.declared.origin.Origin.{Origin}
use Rattle.hdl_core.specs.Held.{Held, state_at, with_state}
use Rattle.std.specs.Prelude.{IfOk, IfSome, OnErr}
use Rattle.std.specs.Option.{option_map_or}
use Rattle.hdl_rows.specs.declared.rows.Refused.{Refused}
use Rattle.hdl_core.specs.Serving.{Context, Scene, message_as, outcome_of, AssemblesAt, HandlesMessageAt, ReceivesAt, HandlesEventAt}
use Rattle.hdl_core.proofs.HeldLanes.{kept}

when_true : (b : Bool) (P Q : Type 0) → b ≡ true → P → MatchBool b P Q
when_true true P Q e p = p
when_true false P Q e p = absurd cc

when_false : (b : Bool) (P Q : Type 0) → b ≡ false → Q → MatchBool b P Q
when_false false P Q e q = q
when_false true P Q e q = absurd cc

-- what is sent of a frame is read
pub read_of : (e : Envelope) (reply : Result (Option (List ℕ)) Refused) (o : Outcome) → o ≡ outcome_of e reply → IfOk reply (λ r. IfSome r IsReplyFrame) → IsReadable o
read_of e (Ok (Some octets)) o is h = subst IsReadable (sym is) h
read_of e (Ok None) o is h = subst IsReadable (sym is) tt
read_of e (Err refusal) o is h = subst IsReadable (sym is) (short_reply_read e).0

module _ (lane_profile : LaneProfile) (hosts : List ℕ → Bool) (algorithms : List ℕ → Algorithm) (t : Table) (lanes : List Held) (number : ℕ) where
  abbrev context : Context
  context = record { lane_profile = lane_profile; hosts = hosts; algorithms = algorithms; table = t }

  abbrev scene : Scene
  scene = record { context = context; lanes = lanes }

  -- ---- octets that came on an open lane

  module _ (x : Received) where
    ignored : IsOctetsTask lane_profile (state_at lanes number) x (Ignore (state_at lanes number)) → ReceivesAt scene number x Silent lanes t
    ignored task = (state_at lanes number, kept lanes number, inl (record { outcome = Silent; state = state_at lanes number; change = None }, Ignore (state_at lanes number), task, refl, refl, refl, refl))

    pub no_frame : ¬ IsFrame x.bytes → ReceivesAt scene number x Silent lanes t
    no_frame none = ignored (inr (none, refl))

    pub refused : (f : Frame) (o : Outcome) (lanes' : List Held) (t' : Table) → IsFrameOf x.bytes f → o ≡ Busy (short_reply 3 f.envelope) → lanes' ≡ lanes → t' ≡ t → ReceivesAt scene number x o lanes' t'
    refused f o lanes' t' found busy same table =
        (state_at lanes number, same ∙ kept lanes number, inr (found.frame, busy ∙ ap (λ (n : Envelope). Busy (short_reply 3 n)) found.envelope, refl, table))

    assembled : (f : Frame) (reply : Option (List ℕ)) (o : Outcome) (lanes' : List Held) (t' : Table) → IsFrameOf x.bytes f → is_truncated f.envelope ≡ true → o ≡ option_map_or Reply reply Silent
        → AssemblesAt scene number x reply lanes' t' → ReceivesAt scene number x o lanes' t'
    assembled f reply o lanes' t' found e is (s', same, (eff, k, task, does, out, state, table)) =
        (s', same, inl (eff, k, inl (found.frame, when_true (is_truncated (envelope_at x.bytes)) _ _ (sym (ap is_truncated found.envelope) ∙ e) task), does, is ∙ sym out, sym state, table))

    pub piece : (f : Frame) (reply : Result (Option (List ℕ)) Refused) (o : Outcome) (lanes' : List Held) (t' : Table) → IsFrameOf x.bytes f → is_truncated f.envelope ≡ true → o ≡ outcome_of f.envelope reply
        → IfOk reply (λ octets. AssemblesAt scene number x octets lanes' t') → OnErr reply (t' ≡ t) → OnErr reply (lanes' ≡ lanes) → ReceivesAt scene number x o lanes' t'
    piece f (Ok (Some octets)) o lanes' t' found e is done undone kept = assembled f (Some octets) o lanes' t' found e is done
    piece f (Ok None) o lanes' t' found e is done undone kept = assembled f None o lanes' t' found e is done
    piece f (Err refusal) o lanes' t' found e is done undone same = refused f o lanes' t' found is same undone

    pub heard : (f : Frame) (m : Origin) (message octets : List ℕ) (lanes' : List Held) (t' : Table) → IsFrameOf x.bytes f → is_truncated f.envelope ≡ false → message ≡ drop 20 x.bytes
        → m ≡ record { lane = number; peer = x.peer; moment = x.moment; nonce = x.nonce; envelope = f.envelope }
        → HandlesMessageAt scene number (message_as m message) octets lanes' t' → ReceivesAt scene number x (Reply octets) lanes' t'
    heard f m message octets lanes' t' found e is origin done =
        let same : message_as m message ≡ tasks.message_from x (drop 20 x.bytes) = λ i. message_as ((origin ∙ ap (λ (n : Envelope). record { lane = number; peer = x.peer; moment = x.moment; nonce = x.nonce; envelope = n }) found.envelope) i) (is i) in
        let h = subst (λ (l : tasks.Message). HandlesMessageAt scene number l octets lanes' t') same done in (
          h.0,
          h.1,
          inl (h.2.2.0, h.2.0, inl (found.frame, when_false (is_truncated (envelope_at x.bytes)) _ _ (sym (ap is_truncated found.envelope) ∙ e) h.2.1), h.2.2.1, sym h.2.2.2, sym h.2.2.3, h.2.2.4),
        )

  -- ---- an event of a lane

  module _ (what : What) where
    silent : (s' : LaneState) (lanes' : List Held) → tasks.IsTask lane_profile (state_at lanes number) what (Ignore s') → lanes' ≡ with_state lanes number s' → HandlesEventAt scene number what Silent lanes' t
    silent s' lanes' task after = (s', after, inl (record { outcome = Silent; state = s'; change = None }, Ignore s', task, refl, refl, refl, refl))

    pub opened : (lanes' : List Held) → what ≡ Open → lanes' ≡ with_state lanes number (fresh true) → HandlesEventAt scene number what Silent lanes' t
    opened lanes' e after = silent (fresh true) lanes' (subst (λ w. tasks.IsTask lane_profile (state_at lanes number) w (Ignore (fresh true))) (sym e) refl) after

    pub closed : (lanes' : List Held) → what ≡ Close → lanes' ≡ with_state lanes number (fresh false) → HandlesEventAt scene number what Silent lanes' t
    closed lanes' e after = silent (fresh false) lanes' (subst (λ w. tasks.IsTask lane_profile (state_at lanes number) w (Ignore (fresh false))) (sym e) refl) after

    pub unbroken : (session request : ℕ) → what ≡ Bad session request → (state_at lanes number).is_open ≡ false → HandlesEventAt scene number what Silent lanes t
    unbroken session request e up =
        let s = state_at lanes number in
        silent s lanes (subst (λ w. tasks.IsTask lane_profile s w (Ignore s)) (sym e) (ap (λ b. cond b (Break session request s) (Ignore s)) (sym up))) (kept lanes number)

    pub broken : (session request : ℕ) (reply : List ℕ) → what ≡ Bad session request → (state_at lanes number).is_open ≡ true → reply ≡ short_reply 4 (message_envelope session request 0) → HandlesEventAt scene number what (CloseAfter reply) lanes t
    broken session request reply e up is =
        let s = state_at lanes number in (
          s,
          kept lanes number,
          inl (
            record { outcome = CloseAfter (short_reply 4 (message_envelope session request 0)); state = s; change = None },
            Break session request s,
            subst (λ w. tasks.IsTask lane_profile s w (Break session request s)) (sym e) (ap (λ b. cond b (Break session request s) (Ignore s)) (sym up)),
            refl,
            ap CloseAfter is,
            refl,
            refl,
          ),
        )

    pub unheard : (x : Received) → what ≡ what_of x → (state_at lanes number).is_open ≡ false → HandlesEventAt scene number what Silent lanes t
    unheard x e up =
        let s = state_at lanes number in
        silent s lanes (subst (λ w. tasks.IsTask lane_profile s w (Ignore s)) (sym e) (when_false s.is_open _ _ up refl)) (kept lanes number)

    pub received : (x : Received) (o : Outcome) (lanes' : List Held) (t' : Table) → what ≡ what_of x → (state_at lanes number).is_open ≡ true → ReceivesAt scene number x o lanes' t' → HandlesEventAt scene number what o lanes' t'
    received x o lanes' t' e up (s', after, inl a) =
        let s = state_at lanes number in
        subst (λ w. HandlesEventAt scene number w o lanes' t') (sym e) (s', after, inl (a.0, a.1, when_true s.is_open _ _ up a.2, a.3, a.4, a.5, a.6))
    received x o lanes' t' e up (s', after, inr b) =
        (s', after, inr (record { received = x; frame_event = e; frame = b.0; is_open = up; outcome = b.1; lane_stays = b.2; table_stays = b.3 }))
