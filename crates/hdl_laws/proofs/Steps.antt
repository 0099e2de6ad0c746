-- Tasks and what they do: a task is one, on tables that agree it does the same, and it changes hosted rows alone.
-- This file alone looks into tasks, frames and lanes.
use Rattle.std.proofs.Common.{◌≡◌, inl, inr, ℕ, List, Bool, true, false, cond, ◌==◌, Option, Some, None, refl, sym, ap, ◌∙◌, subst, IsTrue, IsFalse, unwrap_or, MatchBool}
use Rattle.std.specs.Prelude.{drop}
use Rattle.hdl_name.specs.Name.{prefix, canonical}
use Rattle.hdl_value.specs.Place.{Place}
use Rattle.hdl_value.specs.declared.wire.Wire.{Wire}
use Rattle.hdl_rows.specs.Table.{Table}
use Rattle.hdl_rows.proofs.Writes.{some_none}
use Rattle.hdl_tenants.specs.Register.{root}
use Rattle.hdl_auth.specs.declared.algorithm.Algorithm.{Algorithm}
use Rattle.hdl_auth.specs.declared.algorithm.Algorithm.TheVariants.{Sha1}
use Rattle.hdl_auth.specs.Digest.{algorithm_of}
use Rattle.hdl_frame.specs.Envelope.{envelope_at, is_truncated}
use Rattle.hdl_msg.specs.Message.{Content, SpellsRequest, Operation, resolution, create, delete, add, remove, modify, list, response, other, site_info}
use Rattle.hdl_msg.specs.declared.replies.ReplyContent.TheVariants.{Empty}
use Rattle.hdl_msg.proofs.Requests.{one_request_lem}
use Rattle.hdl_slots.specs.declared.pending.Pending.{Pending}
use Rattle.hdl_ops.specs.declared.change.Change.{Change}
use Rattle.hdl_ops.specs.declared.change.Change.TheVariants.{Create, Delete, Add, Remove, Modify}
use Rattle.hdl_ops.specs.Admission.{refusal, request_algorithm}
use Rattle.hdl_ops.specs.Requests.{Response, sent_handle, response_of, stored_operation}
use Rattle.hdl_ops.proofs.Stored.{stored_handle}
use Rattle.hdl_ops.specs.TableViews.{TableView, table_view}
use Rattle.hdl_ops.specs.Replies.{fits}
use Rattle.hdl_ops.specs.Decisions.{Level, Anyone, Proven, Decision, DecidesBy, decision, refusal_decision, success, failure, carried_content, change_of}
use Rattle.hdl_ops.proofs.Passed.{Passes, passes_unless_refused, canonical_is_hosted}
use Rattle.hdl_ops.proofs.Decided.{one_decision_lem}
use Rattle.hdl_ops.proofs.SiteDecisions.{site_changes_nothing}
use Rattle.hdl_events.specs.declared.What.{What}
use Rattle.hdl_pool.specs.Partial as partial
use Rattle.hdl_pool.specs.Partial.{piece_of}
use Rattle.hdl_pool.specs.Taking.{take_piece, whole_message, free_partial}
use Rattle.hdl_laws.specs.Lanes.{LaneState, with_partials}
use Rattle.hdl_laws.specs.LaneProfile.{LaneProfile}
use Rattle.hdl_laws.specs.Tasks.{Received, Message, message_from, Task, Ignore, Break, Malformed, Unknown, Late, Deny, Ask, Inform, Redeem, IsReading, IsTask, IsResponseTask, IsRequestTask, IsContentTask, IsMessageTask, IsWholeTask, IsPieceTask, IsFrameTask, IsOctetsTask, redeem_task}
use Rattle.hdl_laws.specs.Effects.{Effect, Does, ask_effect, answer_effect, challenge_effect}
use Rattle.hdl_laws.specs.Runs.{is_busy}
use Rattle.hdl_laws.specs.Isolation.{Agrees, IsClosed}
use Rattle.hdl_laws.proofs.Agreement.{decides_agrees}
use Rattle.hdl_laws.proofs.Writes.{written_handle}

-- ---- a task is one

same_reading : {A : Type 0} (P : A → Type 0) → ((x y : A) → P x → P y → x ≡ y) → (o o' : Option A) → IsReading P o → IsReading P o' → o ≡ o'
same_reading P one None None a b = refl
same_reading P one None (Some y) a b = absurd (a y b)
same_reading P one (Some x) None a b = absurd (b x a)
same_reading P one (Some x) (Some y) a b = ap Some (one x y a b)

one_reading : (w : Wire) (octets : List ℕ) (o o' : Option Content) → IsReading (SpellsRequest w octets) o → IsReading (SpellsRequest w octets) o' → o ≡ o'
one_reading w octets o o' a b = same_reading (SpellsRequest w octets) (λ c d p q. one_request_lem w octets c d p q) o o' a b

response_task_one : (w : LaneProfile) (s : LaneState) (m : Message) (r : Content) (a : Response) (p : Option Pending) (k k' : Task) → IsResponseTask w s m r a p k → IsResponseTask w s m r a p k' → k ≡ k'
response_task_one w s m r a None k k' x y = x ∙ sym y
response_task_one w s m r a (Some p) k k' x y = x.2 ∙ ap (redeem_task w.takes_changes s m a p) (one_reading w.wire p.message x.0 y.0 x.1 y.1) ∙ sym y.2

request_task_one : (w : LaneProfile) (s : LaneState) (m : Message) (r : Content) (a : Option Response) (k k' : Task) → IsRequestTask w s m r a k → IsRequestTask w s m r a k' → k ≡ k'
request_task_one w s m r None k k' x y = x ∙ sym y
request_task_one w s m r (Some a) k k' x y = response_task_one w s m r a _ k k' x y

content_task_one : (w : LaneProfile) (s : LaneState) (m : Message) (o : Option Content) (k k' : Task) → IsContentTask w s m o k → IsContentTask w s m o k' → k ≡ k'
content_task_one w s m None k k' x y = x ∙ sym y
content_task_one w s m (Some r) k k' x y = request_task_one w s m r (response_of r.operation) k k' x y

message_task_one : (w : LaneProfile) (s : LaneState) (m : Message) (k k' : Task) → IsMessageTask w s m k → IsMessageTask w s m k' → k ≡ k'
message_task_one w s m k k' a b = content_task_one w s m b.0 k k' (subst (λ o. IsContentTask w s m o k) (one_reading w.wire m.message a.0 b.0 a.1 b.1) a.2) b.2

either_one : (c : Bool) (P Q : Task → Type 0) → ((k k' : Task) → P k → P k' → k ≡ k') → ((k k' : Task) → Q k → Q k' → k ≡ k') → (k k' : Task) → MatchBool c (P k) (Q k) → MatchBool c (P k') (Q k') → k ≡ k'
either_one true P Q p q k k' a b = p k k' a b
either_one false P Q p q k k' a b = q k k' a b

same_task : (x k k' : Task) → k ≡ x → k' ≡ x → k ≡ k'
same_task x k k' a b = a ∙ sym b

whole_task_one : (w : LaneProfile) (kept gone : LaneState) (x : Received) (o : Option (List ℕ)) (k k' : Task) → IsWholeTask w kept gone x o k → IsWholeTask w kept gone x o k' → k ≡ k'
whole_task_one w kept gone x None k k' a b = same_task (Ignore kept) k k' a b
whole_task_one w kept gone x (Some message) k k' a b = message_task_one w gone (message_from x message) k k' a b

frame_task_one : (w : LaneProfile) (s : LaneState) (x : Received) (k k' : Task) → IsFrameTask w s x k → IsFrameTask w s x k' → k ≡ k'
frame_task_one w s x k k' a b =
    let after = take_piece s.partials (piece_of x.peer x.bytes) in
    let gone = with_partials s (free_partial s.partials (partial.key_of x.peer (envelope_at x.bytes))) in
    either_one (is_truncated (envelope_at x.bytes)) (λ j. IsPieceTask w s x after j) (λ j. IsMessageTask w s (message_from x (drop 20 x.bytes)) j)
    (whole_task_one w (with_partials s after.1) gone x (whole_message after.0)) (message_task_one w s (message_from x (drop 20 x.bytes))) k k' a b

octets_task_one : (w : LaneProfile) (s : LaneState) (x : Received) (k k' : Task) → IsOctetsTask w s x k → IsOctetsTask w s x k' → k ≡ k'
octets_task_one w s x k k' (inl a) (inl b) = frame_task_one w s x k k' a.1 b.1
octets_task_one w s x k k' (inl a) (inr b) = absurd (b.0 a.0)
octets_task_one w s x k k' (inr a) (inl b) = absurd (a.0 b.0)
octets_task_one w s x k k' (inr a) (inr b) = a.1 ∙ sym b.1

pub task_one : (w : LaneProfile) (s : LaneState) (what : What) (k k' : Task) → IsTask w s what k → IsTask w s what k' → k ≡ k'
task_one w s What.Open k k' a b = a ∙ sym b
task_one w s What.Close k k' a b = a ∙ sym b
task_one w s (What.Bad session request) k k' a b = a ∙ sym b
task_one w s (What.Frame peer moment nonce bytes) k k' a b =
    let x : Received = record { peer = peer; moment = moment; nonce = nonce; bytes = bytes } in
    either_one s.is_open (λ j. IsOctetsTask w s x j) (λ j. j ≡ Ignore s) (octets_task_one w s x) (same_task (Ignore s)) k k' a b

-- ---- on tables that agree a task does the same

pub does_agrees : (hosted : List ℕ → Bool) (algorithms : List ℕ → Algorithm) (C : List Place) (t t' : Table) → Agrees hosted C t t' → IsClosed hosted C t → IsFalse (hosted root) → (k : Task) (eff : Effect) → Does hosted algorithms t k eff → Does hosted algorithms t' k eff
does_agrees hosted algorithms C t t' agree closed rootless (Ignore s) eff is = is
does_agrees hosted algorithms C t t' agree closed rootless (Break session request s) eff is = is
does_agrees hosted algorithms C t t' agree closed rootless (Malformed m s) eff is = is
does_agrees hosted algorithms C t t' agree closed rootless (Unknown m r s) eff is = is
does_agrees hosted algorithms C t t' agree closed rootless (Late m r a s) eff is = is
does_agrees hosted algorithms C t t' agree closed rootless (Deny m r s) eff is = is
does_agrees hosted algorithms C t t' agree closed rootless (Ask m r s) eff is = (is.0, decides_agrees hosted C t t' agree closed rootless (request_algorithm algorithms r) r Anyone is.0 is.1, is.2)
does_agrees hosted algorithms C t t' agree closed rootless (Inform m r site s) eff is = is
does_agrees hosted algorithms C t t' agree closed rootless (Redeem m r p s) eff is = (is.0, decides_agrees hosted C t t' agree closed rootless (algorithm_of p.digest) r (Proven p) is.0 is.1, is.2)

-- ---- an answer is never busy

either_calm : (b : Bool) (x y : Effect) → is_busy x.outcome ≡ false → is_busy y.outcome ≡ false → is_busy (cond b x y).outcome ≡ false
either_calm true x y p q = p
either_calm false x y p q = q

abbrev calm : Effect → Bool
calm eff = is_busy eff.outcome

pub does_calm : (hosted : List ℕ → Bool) (algorithms : List ℕ → Algorithm) (t : Table) (k : Task) (eff : Effect) → Does hosted algorithms t k eff → is_busy eff.outcome ≡ false
does_calm hosted algorithms t (Ignore s) eff is = ap calm is
does_calm hosted algorithms t (Break session request s) eff is = ap calm is
does_calm hosted algorithms t (Malformed m s) eff is = ap calm is
does_calm hosted algorithms t (Unknown m r s) eff is = ap calm is
does_calm hosted algorithms t (Late m r a s) eff is = ap calm is
does_calm hosted algorithms t (Deny m r s) eff is = ap calm is
does_calm hosted algorithms t (Ask m r s) eff is = ap calm is.2 ∙ either_calm (is.0.code == 402) (challenge_effect (request_algorithm algorithms r) s m r) (answer_effect (request_algorithm algorithms r) s m r is.0) refl refl
does_calm hosted algorithms t (Inform m r site s) eff is = ap calm is
does_calm hosted algorithms t (Redeem m r p s) eff is = ap calm is.2

-- ---- a task changes hosted rows alone

abbrev pub ChangesHosted : (List ℕ → Bool) → Option Change → Type 0
ChangesHosted hosted c = (x : Change) → c ≡ Some x → IsTrue (hosted (prefix (written_handle x)))

changes_none : (hosted : List ℕ → Bool) → ChangesHosted hosted None
changes_none hosted x e = absurd (some_none x (sym e))

changes_one : (hosted : List ℕ → Bool) (c : Change) → IsTrue (hosted (prefix (written_handle c))) → ChangesHosted hosted (Some c)
changes_one hosted c mine x e = subst (λ o. IsTrue (hosted (prefix (written_handle (unwrap_or o c))))) e mine

asked_change : (hosted : List ℕ → Bool) (o : Operation) → IsTrue (hosted (prefix (canonical (sent_handle o)))) → ChangesHosted hosted (change_of o)
asked_change hosted (create handle values) mine = changes_one hosted (Create handle values) mine
asked_change hosted (delete handle) mine = changes_one hosted (Delete handle) mine
asked_change hosted (add handle values) mine = changes_one hosted (Add handle values) mine
asked_change hosted (remove handle indexes) mine = changes_one hosted (Remove handle indexes) mine
asked_change hosted (modify handle values) mine = changes_one hosted (Modify handle values) mine
asked_change hosted (resolution handle indexes types) mine = changes_none hosted
asked_change hosted (list handle) mine = changes_none hosted
asked_change hosted (response kind handle index answer) mine = changes_none hosted
asked_change hosted (site_info octets) mine = changes_none hosted
asked_change hosted (other octets) mine = changes_none hosted

module _ (hosted : List ℕ → Bool) (t : Table) where
  decision_change : (a : Algorithm) (s : TableView) (r : Content) (level : Level) (code : ℕ) → Passes hosted r → ChangesHosted hosted (decision a s r level code).change
  unfolding decision
  decision_change a s r level code passes = pick (code == 1) (fits a r (carried_content s r level))
    where
      pick : (b c : Bool) → ChangesHosted hosted (cond {A = Decision} b (cond {A = Decision} c (success s r level) (failure 2 Empty)) (failure code Empty)).change
      pick true true =
          asked_change hosted (stored_operation r) (subst (λ (h : List ℕ). IsTrue (hosted (prefix (canonical h)))) (sym (stored_handle r.wire r.operation)) (canonical_is_hosted hosted r passes))
      pick true false = changes_none hosted
      pick false c = changes_none hosted

  refused_change : (r : Content) (code : ℕ) → (refusal_decision r code).change ≡ None
  unfolding refusal_decision
  refused_change r code = refl

  decided_change : (a : Algorithm) (r : Content) (level : Level) (d : Decision) (c : Option ℕ) → refusal hosted r ≡ c → DecidesBy a t r level c d → ChangesHosted hosted d.change
  decided_change a r level d (Some code) e is x k = absurd (some_none x (sym k ∙ ap (λ (z : Decision). z.change) is ∙ refused_change r code))
  decided_change a r Anyone d None e is x k = decision_change a (table_view t r) r Anyone _ (passes_unless_refused hosted r e) x (sym (ap (λ (z : Decision). z.change) is) ∙ k)
  decided_change a r (Proven p) d None e is x k = decision_change a (table_view t r) r (Proven p) is.0 (passes_unless_refused hosted r e) x (sym (ap (λ (z : Decision). z.change) is.2) ∙ k)

  asked_effect : (b : Bool) (x y : Effect) → x.change ≡ None → ChangesHosted hosted y.change → ChangesHosted hosted (cond b x y).change
  asked_effect true x y none f z e = absurd (some_none z (sym e ∙ none))
  asked_effect false x y none f z e = f z e

  pub does_change : (algorithms : List ℕ → Algorithm) (k : Task) (eff : Effect) → Does hosted algorithms t k eff → ChangesHosted hosted eff.change
  does_change algorithms (Ignore s) eff is x e = absurd (some_none x (sym e ∙ ap (λ (y : Effect). y.change) is))
  does_change algorithms (Break session request s) eff is x e = absurd (some_none x (sym e ∙ ap (λ (y : Effect). y.change) is))
  does_change algorithms (Malformed m s) eff is x e = absurd (some_none x (sym e ∙ ap (λ (y : Effect). y.change) is))
  does_change algorithms (Unknown m r s) eff is x e = absurd (some_none x (sym e ∙ ap (λ (y : Effect). y.change) is))
  does_change algorithms (Late m r a s) eff is x e = absurd (some_none x (sym e ∙ ap (λ (y : Effect). y.change) is))
  does_change algorithms (Deny m r s) eff is x e = absurd (some_none x (sym e ∙ ap (λ (y : Effect). y.change) is))
  does_change algorithms (Ask m r s) eff is x e =
      asked_effect (is.0.code == 402) (challenge_effect (request_algorithm algorithms r) s m r) (answer_effect (request_algorithm algorithms r) s m r is.0) refl (decided_change (request_algorithm algorithms r) r Anyone is.0 (refusal hosted r) refl is.1) x (sym (ap (λ (y : Effect). y.change) is.2) ∙ e)
  does_change algorithms (Inform m r site s) eff is x e = absurd (some_none x (sym e ∙ ap (λ (y : Effect). y.change) is ∙ site_changes_nothing Sha1 r site))
  does_change algorithms (Redeem m r p s) eff is x e =
      decided_change (algorithm_of p.digest) r (Proven p) is.0 (refusal hosted r) refl is.1 x (sym (ap (λ (y : Effect). y.change) is.2) ∙ e)

-- ---- what a task does is one

pub does_one : (hosted : List ℕ → Bool) (algorithms : List ℕ → Algorithm) (t : Table) (k : Task) (x y : Effect) → Does hosted algorithms t k x → Does hosted algorithms t k y → x ≡ y
does_one hosted algorithms t (Ignore s) x y a b = a ∙ sym b
does_one hosted algorithms t (Break session request s) x y a b = a ∙ sym b
does_one hosted algorithms t (Malformed m s) x y a b = a ∙ sym b
does_one hosted algorithms t (Unknown m r s) x y a b = a ∙ sym b
does_one hosted algorithms t (Late m r c s) x y a b = a ∙ sym b
does_one hosted algorithms t (Deny m r s) x y a b = a ∙ sym b
does_one hosted algorithms t (Ask m r s) x y a b = a.2 ∙ ap (ask_effect (request_algorithm algorithms r) s m r) (one_decision_lem hosted (request_algorithm algorithms r) t r Anyone a.0 b.0 a.1 b.1) ∙ sym b.2
does_one hosted algorithms t (Inform m r site s) x y a b = a ∙ sym b
does_one hosted algorithms t (Redeem m r p s) x y a b = a.2 ∙ ap (answer_effect (algorithm_of p.digest) s m r) (one_decision_lem hosted (algorithm_of p.digest) t r (Proven p) a.0 b.0 a.1 b.1) ∙ sym b.2
