-- A run goes on: a task is asked for, a challenge is answered, an outcome is told.
use Rattle.std.proofs.Common.{◌≡◌, ℕ, zero, suc, ◌+◌, ◌<◌, Bool, true, false, List, [], ◌∷◌, ◌++◌, length, get_or, drop, map, All, Contains, Option, None, Some, refl, sym, ap, subst, ◌∙◌, arith}
use Rattle.std.specs.List.{concat, FoldsTo, remove}
use Rattle.std.specs.Prelude.{IsPermutation}
use Rattle.std.specs.Io.KnownBytes.{Appends, Keeps}
use Rattle.std.proofs.lemmas.List.{append-nil, append_assoc, map-append}
use Rattle.std.proofs.lemmas.List.Elements.{All-nil, All-cons, All-append, Contains-append_left, Contains-append_right, Contains-push}
use Rattle.std.proofs.lemmas.List.Sorted.{IsPermutation-trans, IsPermutation-sym, IsPermutation-to_front, IsPermutation-map, IsPermutation-remove, IsPermutation-append_left, IsPermutation-append_right, Contains-permutation}
use Rattle.hdl_frame.specs.Envelope.{envelope_at}
use Rattle.hdl_value.specs.declared.wire.Wire.{Wire}
use Rattle.hdl_msg.specs.Reply.{ReplyParts, SpellsReply}
use Rattle.hdl_client.proofs.Apart.{all_without}
use Rattle.hdl_client.proofs.Frames.{added_in_turn}
use Rattle.hdl_client.specs.Batch.{frames_for, frames_awaited, AnswersFor, IsOutcome}
use Rattle.hdl_client.specs.Exchange.{frame_octets, delivery_in}
use Rattle.hdl_client.specs.Reply.{IsReplyTo}
use Rattle.hdl_client.specs.Outcomes.{Outcome, outcome_task, task_of, Run, Brings, AsksFor, WasAsked, AsksForOne, IsOutcomeRight, IsWaiting, IsTaken, IsSentFor, IsRun}
use Rattle.hdl_client.specs.declared.batch.PendingRequest.{PendingRequest}
use Rattle.hdl_client.specs.declared.challenge.Key.{Key}
use Rattle.hdl_client.specs.declared.task.Task.{Task}
use Rattle.hdl_client.specs.declared.transport.Transport.{Ghosts}

-- ---- octets

concat_push : (frames : List (List ℕ)) (frame : List ℕ) → concat (frames ++ frame ∷ []) ≡ concat frames ++ frame
concat_push [] frame = append-nil frame
concat_push (f ∷ fs) frame = ap (λ l. f ++ l) (concat_push fs frame) ∙ sym (append_assoc f (concat fs) frame)

-- one frame more
frame_more : (all mid rest : Option (List ℕ)) (frames : List (List ℕ)) (frame : List ℕ) → Appends all mid (concat frames) → Appends mid rest frame → Appends all rest (concat (frames ++ frame ∷ []))
frame_more all mid rest frames frame p q = subst (Appends all rest) (sym (concat_push frames frame)) (added_in_turn all mid rest (concat frames) frame p q)

-- none more
pub kept_after : (all mid rest : Option (List ℕ)) (octets : List ℕ) → Appends all mid octets → Keeps mid rest → Appends all rest octets
kept_after None mid rest octets p q = tt
kept_after (Some xs) None rest octets p q = elim p [ ]
kept_after (Some xs) (Some ys) None octets p q = q
kept_after (Some xs) (Some ys) (Some zs) octets p q = q ∙ p

pub kept_before : (all mid rest : Option (List ℕ)) (octets : List ℕ) → Keeps all mid → Appends mid rest octets → Appends all rest octets
kept_before None mid rest octets p q = tt
kept_before (Some xs) None rest octets p q = elim p [ ]
kept_before (Some xs) (Some ys) None octets p q = q
kept_before (Some xs) (Some ys) (Some zs) octets p q = q ∙ ap (λ l. l ++ octets) p

pub none_more : (all : Option (List ℕ)) → Appends all all []
none_more None = tt
none_more (Some xs) = sym (append-nil xs)

-- one outcome more
folds_push : {P A : Type 0} (R : P → A → P → Type 0) (xs : List A) (p q r : P) (x : A) → FoldsTo R p xs q → R q x r → FoldsTo R p (xs ++ x ∷ []) r
folds_push R [] p q r x e h = (r, subst (λ s. R s x r) (sym e) h, refl)
folds_push R (y ∷ ys) p q r x f h = (f.0, f.1, folds_push R ys f.0 q r x f.2 h)

-- ---- what held of a run holds when more went and came

each : {A : Type 0} (P Q : A → Type 0) (xs : List A) → ((x : A) → P x → Q x) → All P xs → All Q xs
each P Q xs f all = λ k d lt. f (get_or xs k d) (all k d lt)

-- everything that went and came in the first run did so in the second
abbrev IsPart : Run → Run → Type 0
IsPart run after = ((frame : List ℕ) → Contains run.sent frame → Contains after.sent frame) × ((frame : List ℕ) → Contains run.came frame → Contains after.came frame)

module _ (keys : List Key) (run after : Run) (part : IsPart run after) where
  asks_on : (task : Task) (number : ℕ) (is_answer : Bool) (frame : List ℕ) → AsksFor keys run task number is_answer frame → AsksFor keys after task number is_answer frame
  asks_on task number false frame h = h
  asks_on task number true frame h = record {
    first = h.first;
    asked = part.0 _ h.asked;
    challenge = h.challenge;
    parts = h.parts;
    challenged = record { came = part.1 _ h.challenged.came; own = h.challenged.own; read = h.challenged.read };
    answer = h.answer;
    right = h.right;
    answered = h.answered;
  }

  asked_on : (task : Task) (number : ℕ) (is_answer : Bool) → WasAsked keys run task number is_answer → WasAsked keys after task number is_answer
  asked_on task number is_answer h = (h.0, part.0 h.0 h.1, asks_on task number is_answer h.0 h.2)

  proper_on : (tasks others : List Task) (frame : List ℕ) → AsksForOne keys run tasks frame → AsksForOne keys after (tasks ++ others) frame
  proper_on tasks others frame h = (h.0, h.1, h.2, Contains-append_left tasks others h.0 h.3, asks_on h.0 h.1 h.2 frame h.4)

  proper_still : (tasks : List Task) (frame : List ℕ) → AsksForOne keys run tasks frame → AsksForOne keys after tasks frame
  proper_still tasks frame h = (h.0, h.1, h.2, h.3, asks_on h.0 h.1 h.2 frame h.4)

  right_on : (outcome : Outcome) → IsOutcomeRight keys run outcome → IsOutcomeRight keys after outcome
  right_on outcome h = record {
    number = h.number;
    has_answered = h.has_answered;
    asked = asked_on outcome.task h.number h.has_answered h.asked;
    frame = h.frame;
    reply = h.reply;
    came = record { came = part.1 _ h.came.came; own = h.came.own; read = h.came.read };
    right = h.right;
  }

-- ---- tasks

-- one flight and those that are left
parted : (in_flight : List PendingRequest) (pending : PendingRequest) (rest : List PendingRequest) → IsTaken in_flight pending rest → IsPermutation (map task_of in_flight) (task_of pending ∷ map task_of rest)
parted in_flight pending rest t =
    let lt : t.0 < length in_flight = t.1 in
    let at : pending ≡ get_or in_flight t.0 pending = sym t.2 in
    let all : IsPermutation in_flight (pending ∷ remove in_flight t.0) = IsPermutation-remove in_flight t.0 pending lt at in
    let tasks : IsPermutation (map task_of in_flight) (task_of pending ∷ map task_of (remove in_flight t.0)) = IsPermutation-map task_of in_flight (pending ∷ remove in_flight t.0) all in
    subst (λ l. IsPermutation (map task_of in_flight) (task_of pending ∷ map task_of l)) (sym t.3) tasks

-- ---- what may still come

some_for : (b : Bool) → 0 < frames_for b
some_for true = let one : 0 < 1 = omega arith in one
some_for false = let two : 0 < 2 = omega arith in two

turn : (a b c d : ℕ) → a ≡ b + c → d + a ≡ b + (d + c)
turn a b c d e = omega (arith, e)

further : (a b c d : ℕ) → a ≡ b + c → d + a ≡ (d + b) + c
further a b c d e = omega (arith, e)

less : (all left one rest : ℕ) → all ≡ one + rest → 0 < one → left ≡ rest → left < all
less all left one rest e some l = omega (arith, e, some, l)

less_by_one : (all left one rest more next : ℕ) → all ≡ one + rest → one ≡ 2 → left ≡ rest → more ≡ left + next → next ≡ 1 → more < all
less_by_one all left one rest more next e two l m n = omega (arith, e, two, l, m, n)

due_without : (in_flight : List PendingRequest) (place : ℕ) (pending : PendingRequest) → place < length in_flight → get_or in_flight place pending ≡ pending → frames_awaited in_flight ≡ frames_for pending.is_answer + frames_awaited (remove in_flight place)
due_without [] place pending lt e = absurd (omega (arith, lt))
due_without (f ∷ fs) zero pending lt e = ap (λ (x : PendingRequest). frames_for x.is_answer + frames_awaited fs) e
due_without (f ∷ fs) (suc place) pending lt e = turn (frames_awaited fs) (frames_for pending.is_answer) (frames_awaited (remove fs place)) (frames_for f.is_answer) (due_without fs place pending (omega (arith, lt)) e)

zero_last : (a : ℕ) → a + 0 ≡ 0 + a
zero_last a = omega arith

due_push : (in_flight : List PendingRequest) (pending : PendingRequest) → frames_awaited (in_flight ++ pending ∷ []) ≡ frames_awaited in_flight + frames_for pending.is_answer
due_push [] pending = zero_last (frames_for pending.is_answer)
due_push (f ∷ fs) pending = further (frames_awaited (fs ++ pending ∷ [])) (frames_awaited fs) (frames_for pending.is_answer) (frames_for f.is_answer) (due_push fs pending)

-- one reply less
pub due_told : (in_flight : List PendingRequest) (pending : PendingRequest) (rest : List PendingRequest) → IsTaken in_flight pending rest → frames_awaited rest < frames_awaited in_flight
due_told in_flight pending rest t = less (frames_awaited in_flight) (frames_awaited rest) (frames_for pending.is_answer) (frames_awaited (remove in_flight t.0)) (due_without in_flight t.0 pending t.1 t.2) (some_for pending.is_answer) (ap frames_awaited t.3)

-- one challenge less
pub due_answered : (in_flight : List PendingRequest) (pending : PendingRequest) (rest : List PendingRequest) (next : PendingRequest) (more : List PendingRequest) → IsTaken in_flight pending rest → pending.is_answer ≡ false → next.is_answer ≡ true → more ≡ rest ++ next ∷ [] → frames_awaited more < frames_awaited in_flight
due_answered in_flight pending rest next more t once answered e = less_by_one (frames_awaited in_flight) (frames_awaited rest) (frames_for pending.is_answer) (frames_awaited (remove in_flight t.0)) (frames_awaited more) (frames_for next.is_answer) (due_without in_flight t.0 pending t.1 t.2) (ap frames_for once) (ap frames_awaited t.3) (ap frames_awaited e ∙ due_push rest next) (ap frames_for answered)

-- ---- steps of a run

module _ {T O : Type 0} (g : Ghosts T) (notes : O → Task → ℕ → O → Type 0) (keys : List Key) (start : T) (begun : O) where
  -- nothing yet
  pub nothing_yet : IsRun g notes keys start begun [] (record { sent = []; came = []; told = [] }) start begun []
  nothing_yet = record {
    sent = none_more (g.sent start);
    received = none_more (g.received start);
    told = refl;
    each = record { moves = []; below = tt; is = refl };
    right = All-nil (IsOutcomeRight keys (record { sent = []; came = []; told = [] }));
    waiting = All-nil (IsWaiting keys (record { sent = []; came = []; told = [] }));
    proper = All-nil (AsksForOne keys (record { sent = []; came = []; told = [] }) []);
  }

  -- one task more is asked for
  pub asked_next : (tasks : List Task) (run : Run) (stream new : T) (outcomes : O) (in_flight more : List PendingRequest) (task : Task)
      → IsRun g notes keys start begun tasks run stream outcomes in_flight → IsSentFor g stream in_flight task 0 task.request.octets false new more
      → (after : Run) × IsRun g notes keys start begun (tasks ++ task ∷ []) after new outcomes more
  asked_next tasks run stream new outcomes in_flight more task r l =
      let pending : PendingRequest = l.pending in
      let number : ℕ = pending.request in
      let frame : List ℕ = frame_octets 0 number task.request.octets in
      let after : Run = record { sent = run.sent ++ frame ∷ []; came = run.came; told = run.told } in
      let part : IsPart run after = (λ f h. Contains-append_left run.sent (frame ∷ []) f h, λ f h. h) in
      let own : WasAsked keys after task number false = (frame, Contains-push run.sent frame, refl) in
      let own_task : WasAsked keys after pending.task.now number false = subst (λ (t : Task). WasAsked keys after t number false) (sym l.own) own in
      let own_flight : IsWaiting keys after pending = subst (λ (b : Bool). WasAsked keys after pending.task.now number b) (sym l.kind) own_task in
      let waiting : All (IsWaiting keys after) (in_flight ++ pending ∷ []) = All-append (IsWaiting keys after) in_flight (pending ∷ [])
      (each (IsWaiting keys run) (IsWaiting keys after) in_flight (λ f h. asked_on keys run after part f.task.now f.request f.is_answer h) r.waiting)
      (All-cons (IsWaiting keys after) pending [] own_flight (All-nil (IsWaiting keys after))) in
      let done : List Task = map outcome_task run.told in
      let left : List Task = map task_of in_flight in
      let longer : IsPermutation (tasks ++ task ∷ []) ((done ++ left) ++ task ∷ []) = IsPermutation-append_left (task ∷ []) tasks (done ++ left) r.each in
      let tail : map task_of (in_flight ++ pending ∷ []) ≡ left ++ task ∷ [] = map-append task_of in_flight (pending ∷ []) ∙ ap (λ (t : Task). left ++ t ∷ []) l.own in
      let whole : (done ++ left) ++ task ∷ [] ≡ done ++ map task_of (in_flight ++ pending ∷ []) = append_assoc done left (task ∷ []) ∙ ap (λ (l : List Task). done ++ l) (sym tail) in
      let proper : All (AsksForOne keys after (tasks ++ task ∷ [])) (run.sent ++ frame ∷ []) = All-append (AsksForOne keys after (tasks ++ task ∷ [])) run.sent (frame ∷ [])
      (each (AsksForOne keys run tasks) (AsksForOne keys after (tasks ++ task ∷ [])) run.sent (λ f h. proper_on keys run after part tasks (task ∷ []) f h) r.proper)
      (All-cons (AsksForOne keys after (tasks ++ task ∷ [])) frame [] (task, number, false, Contains-push tasks task, refl) (All-nil (AsksForOne keys after (tasks ++ task ∷ [])))) in
      let now : IsRun g notes keys start begun (tasks ++ task ∷ []) after new outcomes (in_flight ++ pending ∷ []) = record {
        sent = frame_more (g.sent start) (g.sent stream) (g.sent new) run.sent frame r.sent l.sent;
        received = kept_after (g.received start) (g.received stream) (g.received new) (concat run.came) r.received l.received;
        told = r.told;
        each = subst (IsPermutation (tasks ++ task ∷ [])) whole longer;
        right = each (IsOutcomeRight keys run) (IsOutcomeRight keys after) run.told (right_on keys run after part) r.right;
        waiting = waiting;
        proper = proper;
      } in
      (after, subst (IsRun g notes keys start begun (tasks ++ task ∷ []) after new outcomes) (sym l.joined) now)

  -- the flight that was taken was asked for
  was_waiting : (run : Run) (in_flight : List PendingRequest) (pending : PendingRequest) (rest : List PendingRequest) → IsTaken in_flight pending rest → All (IsWaiting keys run) in_flight → IsWaiting keys run pending
  was_waiting run in_flight pending rest t all = subst (IsWaiting keys run) t.2 (all t.0 pending t.1)

  -- those that are left are waiting still
  still_waiting : (run after : Run) → IsPart run after → (in_flight : List PendingRequest) (pending : PendingRequest) (rest : List PendingRequest) → IsTaken in_flight pending rest → All (IsWaiting keys run) in_flight → All (IsWaiting keys after) rest
  still_waiting run after part in_flight pending rest t all = subst (All (IsWaiting keys after)) (sym t.3)
      (all_without (IsWaiting keys after) in_flight t.0 (each (IsWaiting keys run) (IsWaiting keys after) in_flight (λ f h. asked_on keys run after part f.task.now f.request f.is_answer h) all))

  -- an outcome is told
  pub told_one : (tasks : List Task) (run : Run) (stream new : T) (outcomes noted : O) (in_flight rest : List PendingRequest) (pending : PendingRequest) (frame : List ℕ) (reply : ReplyParts) (code : ℕ)
      → IsRun g notes keys start begun tasks run stream outcomes in_flight
      → Appends (g.received stream) (g.received new) frame → Keeps (g.sent stream) (g.sent new)
      → IsTaken in_flight pending rest
      → IsReplyTo pending.task.now.request.wire pending.request (delivery_in pending.task.now.request.wire frame)
      → SpellsReply pending.task.now.request.wire (drop 20 frame) reply
      → IsOutcome keys pending.task.now pending.is_answer reply code
      → notes outcomes pending.task.now code noted
      → (after : Run) × IsRun g notes keys start begun tasks after new noted rest
  told_one tasks run stream new outcomes noted in_flight rest pending frame reply code r came still taken own read right note =
      let outcome : Outcome = record { task = pending.task.now; code = code } in
      let after : Run = record { sent = run.sent; came = run.came ++ frame ∷ []; told = run.told ++ outcome ∷ [] } in
      let part : IsPart run after = (λ f h. h, λ f h. Contains-append_left run.came (frame ∷ []) f h) in
      let done : List Task = map outcome_task run.told in
      let left : List Task = map task_of in_flight in
      let parts : IsPermutation (done ++ left) (done ++ (pending.task.now ∷ map task_of rest)) = IsPermutation-append_right done left (pending.task.now ∷ map task_of rest) (parted in_flight pending rest taken) in
      let all : IsPermutation tasks (done ++ (pending.task.now ∷ map task_of rest)) = IsPermutation-trans tasks (done ++ left) (done ++ (pending.task.now ∷ map task_of rest)) r.each parts in
      let whole : done ++ (pending.task.now ∷ map task_of rest) ≡ map outcome_task (run.told ++ outcome ∷ []) ++ map task_of rest =
      sym (append_assoc done (pending.task.now ∷ []) (map task_of rest)) ∙ ap (λ (l : List Task). l ++ map task_of rest) (sym (map-append outcome_task run.told (outcome ∷ []))) in
      let told_right : IsOutcomeRight keys after outcome = record {
        number = pending.request;
        has_answered = pending.is_answer;
        asked = asked_on keys run after part pending.task.now pending.request pending.is_answer (was_waiting run in_flight pending rest taken r.waiting);
        frame = frame;
        reply = reply;
        came = record { came = Contains-push run.came frame; own = own; read = read };
        right = right;
      } in (
        after,
        record {
          sent = kept_after (g.sent start) (g.sent stream) (g.sent new) (concat run.sent) r.sent still;
          received = frame_more (g.received start) (g.received stream) (g.received new) run.came frame r.received came;
          told = folds_push (λ (old : O) (one : Outcome) (newer : O). notes old one.task one.code newer) run.told begun outcomes noted outcome r.told note;
          each = subst (IsPermutation tasks) whole all;
          right = All-append (IsOutcomeRight keys after) run.told (outcome ∷ [])
              (each (IsOutcomeRight keys run) (IsOutcomeRight keys after) run.told (right_on keys run after part) r.right)
              (All-cons (IsOutcomeRight keys after) outcome [] told_right (All-nil (IsOutcomeRight keys after)));
          waiting = still_waiting run after part in_flight pending rest taken r.waiting;
          proper = each (AsksForOne keys run tasks) (AsksForOne keys after tasks) run.sent (proper_still keys run after part tasks) r.proper;
        },
      )

  -- a challenge is answered
  pub answered_one : (tasks : List Task) (run : Run) (stream mid new : T) (outcomes : O) (in_flight rest more : List PendingRequest) (pending : PendingRequest) (frame : List ℕ) (reply : ReplyParts) (answer : List ℕ)
      → IsRun g notes keys start begun tasks run stream outcomes in_flight
      → Appends (g.received stream) (g.received mid) frame → Keeps (g.sent stream) (g.sent mid)
      → IsTaken in_flight pending rest
      → IsReplyTo pending.task.now.request.wire pending.request (delivery_in pending.task.now.request.wire frame)
      → SpellsReply pending.task.now.request.wire (drop 20 frame) reply
      → pending.is_answer ≡ false
      → AnswersFor keys pending.task.now reply answer
      → IsSentFor g mid rest pending.task.now (envelope_at frame).session answer true new more
      → (after : Run) × IsRun g notes keys start begun tasks after new outcomes more
  answered_one tasks run stream mid new outcomes in_flight rest more pending frame reply answer r came still taken own read once right l =
      let task : Task = pending.task.now in
      let next : PendingRequest = l.pending in
      let number : ℕ = next.request in
      let went : List ℕ = frame_octets (envelope_at frame).session number answer in
      let after : Run = record { sent = run.sent ++ went ∷ []; came = run.came ++ frame ∷ []; told = run.told } in
      let part : IsPart run after = (λ f h. Contains-append_left run.sent (went ∷ []) f h, λ f h. Contains-append_left run.came (frame ∷ []) f h) in
      let first : WasAsked keys run task pending.request false = subst (λ (b : Bool). WasAsked keys run task pending.request b) once (was_waiting run in_flight pending rest taken r.waiting) in
      let asked : Contains run.sent (frame_octets 0 pending.request task.request.octets) = subst (Contains run.sent) first.2 first.1 in
      let answers : AsksFor keys after task number true went = record {
        first = pending.request;
        asked = part.0 (frame_octets 0 pending.request task.request.octets) asked;
        challenge = frame;
        parts = reply;
        challenged = record { came = Contains-push run.came frame; own = own; read = read };
        answer = answer;
        right = right;
        answered = refl;
      } in
      let own_first : WasAsked keys after task number true = (went, Contains-push run.sent went, answers) in
      let own_task : WasAsked keys after next.task.now number true = subst (λ (t : Task). WasAsked keys after t number true) (sym l.own) own_first in
      let own_flight : IsWaiting keys after next = subst (λ (b : Bool). WasAsked keys after next.task.now number b) (sym l.kind) own_task in
      let waiting : All (IsWaiting keys after) (rest ++ next ∷ []) = All-append (IsWaiting keys after) rest (next ∷ [])
      (still_waiting run after part in_flight pending rest taken r.waiting)
      (All-cons (IsWaiting keys after) next [] own_flight (All-nil (IsWaiting keys after))) in
      let done : List Task = map outcome_task run.told in
      let left : List Task = map task_of in_flight in
      let turned : IsPermutation left (map task_of rest ++ task ∷ []) = IsPermutation-trans left (task ∷ map task_of rest) (map task_of rest ++ task ∷ []) (parted in_flight pending rest taken)
      (IsPermutation-sym (map task_of rest ++ task ∷ []) (task ∷ map task_of rest) (IsPermutation-to_front (map task_of rest) task)) in
      let all : IsPermutation tasks (done ++ (map task_of rest ++ task ∷ [])) = IsPermutation-trans tasks (done ++ left) (done ++ (map task_of rest ++ task ∷ [])) r.each (IsPermutation-append_right done left (map task_of rest ++ task ∷ []) turned) in
      let tail : map task_of (rest ++ next ∷ []) ≡ map task_of rest ++ task ∷ [] = map-append task_of rest (next ∷ []) ∙ ap (λ (t : Task). map task_of rest ++ t ∷ []) l.own in
      let last : Contains (done ++ (map task_of rest ++ task ∷ [])) task = Contains-append_right done (map task_of rest ++ task ∷ []) task (Contains-push (map task_of rest) task) in
      let there : Contains tasks task = Contains-permutation (done ++ (map task_of rest ++ task ∷ [])) tasks task (IsPermutation-sym tasks (done ++ (map task_of rest ++ task ∷ [])) all) last in
      let proper : All (AsksForOne keys after tasks) (run.sent ++ went ∷ []) = All-append (AsksForOne keys after tasks) run.sent (went ∷ [])
      (each (AsksForOne keys run tasks) (AsksForOne keys after tasks) run.sent (proper_still keys run after part tasks) r.proper)
      (All-cons (AsksForOne keys after tasks) went [] (task, number, true, there, answers) (All-nil (AsksForOne keys after tasks))) in
      let now : IsRun g notes keys start begun tasks after new outcomes (rest ++ next ∷ []) = record {
        sent = frame_more (g.sent start) (g.sent mid) (g.sent new) run.sent went (kept_after (g.sent start) (g.sent stream) (g.sent mid) (concat run.sent) r.sent still) l.sent;
        received = kept_after (g.received start) (g.received mid) (g.received new) (concat (run.came ++ frame ∷ [])) (frame_more (g.received start) (g.received stream) (g.received mid) run.came frame r.received came) l.received;
        told = r.told;
        each = subst (λ (l : List Task). IsPermutation tasks (done ++ l)) (sym tail) all;
        right = each (IsOutcomeRight keys run) (IsOutcomeRight keys after) run.told (right_on keys run after part) r.right;
        waiting = waiting;
        proper = proper;
      } in
      (after, subst (IsRun g notes keys start begun tasks after new outcomes) (sym l.joined) now)
