-- A world that takes no changes keeps its table.
use Rattle.std.proofs.Common.{◌≡◌, inl, inr, ℕ, List, [], ◌∷◌, Bool, true, false, cond, not, ◌&&◌, ◌==◌, Option, Some, None, refl, sym, ap, ◌∙◌, subst, IsFalse, true≢false}
use Rattle.std.specs.Prelude.{⊤, MatchBool, drop, is_some}
use Rattle.hdl_auth.specs.declared.algorithm.Algorithm.{Algorithm}
use Rattle.hdl_auth.specs.declared.algorithm.Algorithm.TheVariants.{Sha1}
use Rattle.hdl_auth.specs.Digest.{algorithm_of}
use Rattle.hdl_frame.specs.Envelope.{envelope_at, is_truncated}
use Rattle.hdl_value.specs.declared.wire.Wire.{Wire}
use Rattle.hdl_rows.specs.Table.{Table}
use Rattle.hdl_msg.specs.Message.{Content, Operation, resolution, create, delete, add, remove, modify, list, response, other, site_info}
use Rattle.hdl_msg.specs.declared.replies.ReplyContent.TheVariants.{Empty}
use Rattle.hdl_pool.specs.Taking.{take_piece, free_partial, whole_message}
use Rattle.hdl_pool.specs.Partial.{key_of, piece_of}
use Rattle.hdl_slots.specs.declared.pending.Pending.{Pending}
use Rattle.hdl_slots.specs.Lanes.{challenge_of}
use Rattle.hdl_ops.specs.declared.change.Change.{Change}
use Rattle.hdl_ops.specs.Admission.{refusal, request_algorithm}
use Rattle.hdl_ops.specs.Decisions.{Level, Anyone, Proven, Decision, DecidesBy, decision, refusal_decision, success, failure, carried_content, change_of}
use Rattle.hdl_ops.specs.Replies.{fits}
use Rattle.hdl_ops.specs.Requests.{Response, response_of, stored_operation, with_stored}
use Rattle.hdl_ops.specs.TableViews.{TableView, table_view}
use Rattle.hdl_ops.specs.Tables.{apply_if}
use Rattle.hdl_ops.proofs.SiteDecisions.{site_changes_nothing}
use Rattle.hdl_events.specs.declared.What.{What}
use Rattle.hdl_events.specs.declared.What.TheVariants.{Open, Bad, Close}
use Rattle.hdl_laws.specs.Lanes.{LaneState, with_partials}
use Rattle.hdl_laws.specs.LaneProfile.{LaneProfile}
use Rattle.hdl_laws.specs.Worlds.{World, hosts, algorithms, owner, lane_of, lane_profile}
use Rattle.hdl_laws.specs.Tasks.{Received, Message, message_from, Task, Ignore, Break, Malformed, Unknown, Late, Deny, Ask, Inform, Redeem, told_site, ask_task, is_denied, is_late, without_challenge, due_task, redeem_task, IsResponseTask, IsRequestTask, IsContentTask, IsMessageTask, IsWholeTask, IsFrameTask, IsOctetsTask, IsTask}
use Rattle.hdl_laws.specs.Effects.{Effect, Does, answer_effect, challenge_effect}
use Rattle.hdl_laws.specs.Steps.{Turn, IsAnswerFor, IsStep, moment_of}
use Rattle.hdl_laws.specs.Runs.{IsRun, last}
use Rattle.hdl_laws.specs.Laws.{ReadsOnly}

-- ---- such a world decides no change

-- the task decides no request for a change
abbrev KeepsTask : Task → Type 0
KeepsTask (Ask m r s) = change_of r.operation ≡ None
KeepsTask (Redeem m r p s) = change_of r.operation ≡ None
KeepsTask _ = ⊤

either : {A B P : Type 0} (b : Bool) → (A → P) → (B → P) → MatchBool b A B → P
either true f g x = f x
either false f g x = g x

none_if : (o : Option Change) → is_some o ≡ false → o ≡ None
none_if None e = refl
none_if (Some c) e = absurd (true≢false e)

-- what isn't denied asks for no change
no_change : (takes : Bool) (o : Operation) → takes ≡ false → is_denied takes o ≡ false → change_of o ≡ None
no_change true o none e = absurd (true≢false none)
no_change false o none e = none_if (change_of o) e

module _ (w : LaneProfile) (none : w.takes_changes ≡ false) where
  redeem_keeps : (s : LaneState) (m : Message) (a : Response) (p : Pending) (o : Option Content) → KeepsTask (redeem_task w.takes_changes s m a p o)
  redeem_keeps s m a p None = tt
  redeem_keeps s m a p (Some r) = denied (is_denied w.takes_changes r.operation) refl
    where
      by : (b : Bool) → change_of r.operation ≡ None → KeepsTask (cond {A = Task} b (Late m r (algorithm_of p.digest) (without_challenge s m)) (Redeem m r (record { response = a; nonce = p.nonce; digest = p.digest }) (without_challenge s m)))
      by true e = tt
      by false e = e

      denied : (b : Bool) → is_denied w.takes_changes r.operation ≡ b → KeepsTask (cond {A = Task} b (Deny m r (without_challenge s m)) (due_task (without_challenge s m) m a p r))
      denied true e = tt
      denied false e = by (is_late m p) (no_change w.takes_changes r.operation none e)

  response_keeps : (s : LaneState) (m : Message) (r : Content) (a : Response) (o : Option Pending) (k : Task) → IsResponseTask w s m r a o k → KeepsTask k
  response_keeps s m r a None k is = subst KeepsTask (sym is) tt
  response_keeps s m r a (Some p) k is = subst KeepsTask (sym is.2) (redeem_keeps s m a p is.0)

  request_keeps : (s : LaneState) (m : Message) (r : Content) (o : Option Response) (k : Task) → IsRequestTask w s m r o k → KeepsTask k
  request_keeps s m r None k is = subst KeepsTask (sym is) (denied (is_denied w.takes_changes r.operation) refl)
    where
      asked : (o : Option (List ℕ)) → change_of r.operation ≡ None → KeepsTask (ask_task s m r o)
      asked None e = e
      asked (Some site) e = tt

      denied : (b : Bool) → is_denied w.takes_changes r.operation ≡ b → KeepsTask (cond {A = Task} b (Deny m r s) (ask_task s m r (told_site w.site r.operation)))
      denied true e = tt
      denied false e = asked (told_site w.site r.operation) (no_change w.takes_changes r.operation none e)
  request_keeps s m r (Some a) k is = response_keeps s m r a (challenge_of s.challenges.challenges m.peer m.envelope.session) k is

  content_keeps : (s : LaneState) (m : Message) (o : Option Content) (k : Task) → IsContentTask w s m o k → KeepsTask k
  content_keeps s m None k is = subst KeepsTask (sym is) tt
  content_keeps s m (Some r) k is = request_keeps s m r (response_of r.operation) k is

  message_keeps : (s : LaneState) (m : Message) (k : Task) → IsMessageTask w s m k → KeepsTask k
  message_keeps s m k is = content_keeps s m is.0 k is.2

  whole_keeps : (kept gone : LaneState) (x : Received) (o : Option (List ℕ)) (k : Task) → IsWholeTask w kept gone x o k → KeepsTask k
  whole_keeps kept gone x None k is = subst KeepsTask (sym is) tt
  whole_keeps kept gone x (Some bytes) k is = message_keeps gone (message_from x bytes) k is

  frame_keeps : (s : LaneState) (x : Received) (k : Task) → IsFrameTask w s x k → KeepsTask k
  frame_keeps s x k is =
      either (is_truncated (envelope_at x.bytes))
      (λ piece. whole_keeps _ (with_partials s (free_partial s.partials (key_of x.peer (envelope_at x.bytes)))) x (whole_message (take_piece s.partials (piece_of x.peer x.bytes)).0) k piece)
      (λ whole. message_keeps s _ k whole) is

  octets_keeps : (s : LaneState) (x : Received) (k : Task) → IsOctetsTask w s x k → KeepsTask k
  octets_keeps s x k (inl frame) = frame_keeps s x k frame.1
  octets_keeps s x k (inr ignored) = subst KeepsTask (sym ignored.1) tt

  task_keeps : (s : LaneState) (what : What) (k : Task) → IsTask w s what k → KeepsTask k
  task_keeps s Open k is = subst KeepsTask (sym is) tt
  task_keeps s Close k is = subst KeepsTask (sym is) tt
  task_keeps s (Bad session request) k is = subst KeepsTask (sym is) (by s.is_open)
    where
      by : (b : Bool) → KeepsTask (cond {A = Task} b (Break session request s) (Ignore s))
      by true = tt
      by false = tt
  task_keeps s (What.Frame peer moment nonce bytes) k is = either s.is_open (λ x. octets_keeps s _ k x) (λ e. subst KeepsTask (sym e) tt) is

-- ---- what such a task does

stored_keeps : (wire : Wire) (o : Operation) → change_of o ≡ None → change_of (with_stored wire o) ≡ None
stored_keeps wire (create handle values) e = absurd cc
stored_keeps wire (delete handle) e = absurd cc
stored_keeps wire (add handle values) e = absurd cc
stored_keeps wire (remove handle indexes) e = absurd cc
stored_keeps wire (modify handle values) e = absurd cc
stored_keeps wire (resolution handle indexes types) e = refl
stored_keeps wire (list handle) e = refl
stored_keeps wire (response kind handle index answer) e = refl
stored_keeps wire (site_info octets) e = refl
stored_keeps wire (other octets) e = refl

module _ (hosted : List ℕ → Bool) (t : Table) where
  decision_keeps : (a : Algorithm) (s : TableView) (r : Content) (level : Level) (code : ℕ) → change_of r.operation ≡ None → (decision a s r level code).change ≡ None
  unfolding decision
  decision_keeps a s r level code none = pick (code == 1) (fits a r (carried_content s r level))
    where
      pick : (b c : Bool) → (cond {A = Decision} b (cond {A = Decision} c (success s r level) (failure 2 Empty)) (failure code Empty)).change ≡ None
      pick true true = stored_keeps r.wire r.operation none
      pick true false = refl
      pick false c = refl

  refused_keeps : (r : Content) (code : ℕ) → (refusal_decision r code).change ≡ None
  unfolding refusal_decision
  refused_keeps r code = refl

  decided_keeps : (a : Algorithm) (r : Content) (level : Level) (d : Decision) (c : Option ℕ) → change_of r.operation ≡ None → DecidesBy a t r level c d → d.change ≡ None
  decided_keeps a r level d (Some code) none is = ap (λ (z : Decision). z.change) is ∙ refused_keeps r code
  decided_keeps a r Anyone d None none is = ap (λ (z : Decision). z.change) is ∙ decision_keeps a (table_view t r) r Anyone _ none
  decided_keeps a r (Proven p) d None none is = ap (λ (z : Decision). z.change) is.2 ∙ decision_keeps a (table_view t r) r (Proven p) is.0 none

  asked_keeps : (b : Bool) (x y : Effect) → x.change ≡ None → y.change ≡ None → (cond b x y).change ≡ None
  asked_keeps true x y e f = e
  asked_keeps false x y e f = f

  does_keep : (algorithms : List ℕ → Algorithm) (k : Task) (eff : Effect) → KeepsTask k → Does hosted algorithms t k eff → eff.change ≡ None
  does_keep algorithms (Ignore s) eff keeps is = ap (λ (y : Effect). y.change) is
  does_keep algorithms (Break session request s) eff keeps is = ap (λ (y : Effect). y.change) is
  does_keep algorithms (Malformed m s) eff keeps is = ap (λ (y : Effect). y.change) is
  does_keep algorithms (Unknown m r s) eff keeps is = ap (λ (y : Effect). y.change) is
  does_keep algorithms (Late m r a s) eff keeps is = ap (λ (y : Effect). y.change) is
  does_keep algorithms (Deny m r s) eff keeps is = ap (λ (y : Effect). y.change) is
  does_keep algorithms (Ask m r s) eff keeps is =
      ap (λ (y : Effect). y.change) is.2
      ∙ asked_keeps (is.0.code == 402) (challenge_effect (request_algorithm algorithms r) s m r) (answer_effect (request_algorithm algorithms r) s m r is.0) refl (decided_keeps (request_algorithm algorithms r) r Anyone is.0 (refusal hosted r) keeps is.1)
  does_keep algorithms (Inform m r site s) eff keeps is = ap (λ (y : Effect). y.change) is ∙ site_changes_nothing Sha1 r site
  does_keep algorithms (Redeem m r p s) eff keeps is = ap (λ (y : Effect). y.change) is.2 ∙ decided_keeps (algorithm_of p.digest) r (Proven p) is.0 (refusal hosted r) keeps is.1

-- ---- steps and runs

-- the turn leaves the site and the table
record StaysAt (w : World) (t : Turn) : Type 0 where
  site : t.after.site ≡ w.site
  table : t.after.table ≡ w.table

step_stays : (w : World) (t : Turn) → IsFalse w.site.takes_changes → IsStep w t → StaysAt w t
step_stays w t none (inl a) = by (owner w.site t.event.lane) a
  where
    by : (o : Option ℕ) → IsAnswerFor w o t → StaysAt w t
    by None is = record { site = ap (λ (z : Turn). z.after.site) is; table = ap (λ (z : Turn). z.after.table) is }
    by (Some u) is =
        let keeps = task_keeps (lane_profile w.site u) none (lane_of w t.event.lane) t.event.what is.1 is.2 in
        let change = does_keep (hosts w.site u) w.table (algorithms w.site u) is.1 is.0 keeps is.3 in
        record {
          site = ap (λ (z : Turn). z.after.site) is.4;
          table = ap (λ (z : Turn). z.after.table) is.4 ∙ ap (apply_if w.table (moment_of t.event.what)) change;
        }
step_stays w t none (inr b) = record { site = ap (λ (z : Turn). z.after.site) b.busy; table = ap (λ (z : Turn). z.after.table) b.busy }

pub reads_only : ReadsOnly
reads_only w [] none run = refl
reads_only w (t ∷ ts) none run =
    let stays = step_stays w t none run.0 in
    reads_only t.after ts (ap (λ s. s.takes_changes) stays.site ∙ none) run.1 ∙ stays.table
