-- What the counts of a batch's outcomes say of all of them.
use Rattle.std.proofs.Common.{◌≡◌, ◌↔◌, ◌⊎◌, inl, inr, ℕ, ◌+◌, ◌<◌, true, false, List, [], ◌∷◌, ◌++◌, map, length, get_or, drop, All, Contains, OnOk, Result, Ok, Err, refl, sym, ap, subst, ◌∙◌, arith, append_assoc, append-nil}
use Rattle.std.specs.Prelude.{⊤}
use Rattle.std.specs.List.{FoldsTo, filter}
use Rattle.std.proofs.lemmas.Bool.{cond-true, cond-false}
use Rattle.std.proofs.lemmas.List.{at_drop_more, map-append}
use Rattle.std.proofs.lemmas.List.Elements.{All-nil, All-cons, All-head, All-tail, Contains-append_left, Contains-push}
use Rattle.hdl_client.specs.Outcomes.{Outcome, IsWhole}
use Rattle.hdl_client.specs.declared.challenge.Key.{Key}
use Rattle.hdl_client.specs.declared.task.Task.{Task}
use Rattle.hdl_client.specs.declared.transport.Transport.{Ghosts}
use Rattle.hdl_commands.specs.declared.exit_status.ExitStatus.{ExitStatus}
use Rattle.hdl_commands.specs.declared.exit_status.ExitStatus.TheVariants as exits
use Rattle.hdl_commands.specs.Ended.{IsDone, keeps_nothing, IsAsked, IsStatusOf, EndsWith, IsDoneOrAt, LeavesLines, line_of, is_at, found_lines, AsksAgain}

-- what follows of a success
pub on_ok : {A E P Q : Type 0} (r : Result A E) → (P → Q) → OnOk r P → OnOk r Q
on_ok (Ok x) f h = f h
on_ok (Err e) f h = tt

-- whatever is told, nothing is kept
nothing_kept : (told : List Outcome) → FoldsTo (λ (old : ⊤) (o : Outcome) (new : ⊤). keeps_nothing old o.task o.code new) tt told tt
nothing_kept [] = refl
nothing_kept (o ∷ os) = (tt, tt, nothing_kept os)

-- a run of a batch, whoever was told of it
asked_all : {T O : Type 0} (g : Ghosts T) (notes : O → Task → ℕ → O → Type 0) (keys : List Key) (tasks : List Task) (before after : T) (begun ended : O)
    → (whole : IsWhole g notes keys tasks before begun after ended) → IsAsked g keys tasks before after whole.0
asked_all g notes keys tasks before after begun ended whole = record {
  sent = whole.1.sent;
  received = whole.1.received;
  told = nothing_kept whole.0.told;
  each = whole.1.each;
  right = whole.1.right;
  waiting = whole.1.waiting;
  proper = whole.1.proper;
}

-- ---- a count of failures

module _ {O : Type 0} (failures : O → ℕ) where
  -- none has failed exactly if none had and this one is done
  abbrev pub counts : O → Task → ℕ → O → Type 0
  counts old task code new = (failures new ≡ 0) ↔ ((failures old ≡ 0) × IsDone (record { task = task; code = code }))

  -- none has failed in the end exactly if none had and all are done
  counted : (told : List Outcome) (begun ended : O) → FoldsTo (λ (old : O) (o : Outcome) (new : O). counts old o.task o.code new) begun told ended
      → (failures ended ≡ 0) ↔ ((failures begun ≡ 0) × All IsDone told)
  counted [] begun ended same = (
    λ none. (ap failures same ∙ none, All-nil IsDone),
    λ h. ap failures (sym same) ∙ h.0,
  )
  counted (o ∷ os) begun ended next =
      let later : (failures ended ≡ 0) ↔ ((failures next.0 ≡ 0) × All IsDone os) = counted os next.0 ended next.2 in
      let first : (failures next.0 ≡ 0) ↔ ((failures begun ≡ 0) × IsDone o) = next.1 in (
        λ none. ((first.0 (later.0 none).0).0, All-cons IsDone o os (first.0 (later.0 none).0).1 (later.0 none).1),
        λ h. later.1 (first.1 (h.0, All-head IsDone o os h.1), All-tail IsDone o os h.1),
      )

  status_of : (told : List Outcome) (begun ended : O) (status : ExitStatus) → failures begun ≡ 0 → (failures ended ≡ 0) ↔ ((failures begun ≡ 0) × All IsDone told)
      → ((failures ended ≡ 0) × (status ≡ exits.Success)) ⊎ ((0 < failures ended) × (status ≡ exits.Failure)) → IsStatusOf told status
  status_of told begun ended status none all (inl h) = inl (h.1, (all.0 h.0).1)
  status_of told begun ended status none all (inr h) = inr (h.1, λ done. absurd (omega (arith, h.0, all.1 (none, done))))

  -- a status that says whether one has failed
  pub ends_with : {T : Type 0} (g : Ghosts T) (keys : List Key) (tasks : List Task) (before after : T) (begun ended : O) (status : ExitStatus)
      → failures begun ≡ 0 → IsWhole g counts keys tasks before begun after ended → ((failures ended ≡ 0) × (status ≡ exits.Success)) ⊎ ((0 < failures ended) × (status ≡ exits.Failure))
      → EndsWith g keys tasks before after status
  ends_with g keys tasks before after begun ended status none whole says =
      let all : (failures ended ≡ 0) ↔ ((failures begun ≡ 0) × All IsDone whole.0.told) = counted whole.0.told begun ended whole.1.told in
      let asked : IsAsked g keys tasks before after whole.0 = asked_all g counts keys tasks before after begun ended whole in
      (whole.0, asked, status_of whole.0.told begun ended status none all says)

-- ---- what keeps a count of failures

module _ {O : Type 0} (failures : O → ℕ) where
  -- none has failed only if none had
  abbrev pub keeps : O → Task → ℕ → O → Type 0
  keeps old task code new = failures new ≡ 0 → failures old ≡ 0

  kept : (told : List Outcome) (begun ended : O) → FoldsTo (λ (old : O) (o : Outcome) (new : O). keeps old o.task o.code new) begun told ended → failures ended ≡ 0 → failures begun ≡ 0
  kept [] begun ended same none = ap failures same ∙ none
  kept (o ∷ os) begun ended next none = next.1 (kept os next.0 ended next.2 none)

  pub none_before : {T : Type 0} (g : Ghosts T) (keys : List Key) (tasks : List Task) (before after : T) (begun ended : O) → IsWhole g keeps keys tasks before begun after ended → failures ended ≡ 0 → failures begun ≡ 0
  none_before g keys tasks before after begun ended whole none = kept whole.0.told begun ended whole.1.told none

pub asks_again : {T O : Type 0} (g : Ghosts T) (notes : O → Task → ℕ → O → Type 0) (keys : List Key) (tasks again : List Task) (lines : List ℕ) (before after : T) (begun ended : O)
    → map line_of again ≡ found_lines lines tasks → IsWhole g notes keys again before begun after ended → AsksAgain g keys tasks lines before after
asks_again g notes keys tasks again lines before after begun ended same whole = (again, whole.0, same, asked_all g notes keys again before after begun ended whole)

-- ---- which tasks are at lines

-- the next task is at one of the lines, and one more is asked at the same
pub found_next : (lines : List ℕ) (tasks : List Task) (i : ℕ) (task : Task) (asked : List Task) (one : Task) → i < length tasks → get_or tasks i task ≡ task → is_at lines task ≡ true → one.line ≡ task.line
    → map line_of asked ++ found_lines lines (drop i tasks) ≡ found_lines lines tasks → map line_of (asked ++ one ∷ []) ++ found_lines lines (drop (i + 1) tasks) ≡ found_lines lines tasks
found_next lines tasks i task asked one there at here same before =
    let rest : List Task = drop (i + 1) tasks in
    let head : filter (is_at lines) (task ∷ rest) ≡ task ∷ filter (is_at lines) rest = cond-true (is_at lines task) (task ∷ filter (is_at lines) rest) (filter (is_at lines) rest) here in
    let next : found_lines lines (drop i tasks) ≡ found_lines lines (task ∷ rest) = at_drop_more (found_lines lines) tasks i task there ∙ ap (λ (t : Task). found_lines lines (t ∷ rest)) at in
    ap (λ (l : List ℕ). l ++ found_lines lines rest) (map-append line_of asked (one ∷ []))
    ∙ append_assoc (map line_of asked) (line_of one ∷ []) (found_lines lines rest)
    ∙ ap (λ (l : ℕ). map line_of asked ++ l ∷ found_lines lines rest) same
    ∙ ap (λ (ts : List Task). map line_of asked ++ map line_of ts) (sym head)
    ∙ ap (λ (l : List ℕ). map line_of asked ++ l) (sym next)
    ∙ before

-- the next task is at none of the lines
pub passed_next : (lines : List ℕ) (tasks : List Task) (i : ℕ) (task : Task) (asked : List Task) → i < length tasks → get_or tasks i task ≡ task → is_at lines task ≡ false
    → map line_of asked ++ found_lines lines (drop i tasks) ≡ found_lines lines tasks → map line_of asked ++ found_lines lines (drop (i + 1) tasks) ≡ found_lines lines tasks
passed_next lines tasks i task asked there at elsewhere before =
    let rest : List Task = drop (i + 1) tasks in
    let head : filter (is_at lines) (task ∷ rest) ≡ filter (is_at lines) rest = cond-false (is_at lines task) (task ∷ filter (is_at lines) rest) (filter (is_at lines) rest) elsewhere in
    let next : found_lines lines (drop i tasks) ≡ found_lines lines (task ∷ rest) = at_drop_more (found_lines lines) tasks i task there ∙ ap (λ (t : Task). found_lines lines (t ∷ rest)) at in
    ap (λ (ts : List Task). map line_of asked ++ map line_of ts) (sym head)
    ∙ ap (λ (l : List ℕ). map line_of asked ++ l) (sym next)
    ∙ before

-- ---- the lines of those that are looked at once more

module _ {O : Type 0} (failures : O → ℕ) (lines : O → List ℕ) where
  -- none has failed only if none had, and this one is done, or its line is kept
  abbrev pub leaves : O → Task → ℕ → O → Type 0
  leaves old task code new = failures new ≡ 0
      → (failures old ≡ 0) × ((IsDone (record { task = task; code = code }) × (lines new ≡ lines old)) ⊎ (lines new ≡ lines old ++ task.line ∷ []))

  -- none had failed before the first of these, more lines may be kept after it, and each is done or at one of them
  abbrev Left : List Outcome → O → O → Type 0
  Left told begun ended = (failures begun ≡ 0) × ((more : List ℕ) × (lines ended ≡ lines begun ++ more)) × All (IsDoneOrAt (lines ended)) told

  left_one : (o : Outcome) (os : List Outcome) (begun next ended : O) → Left os next ended
      → (failures begun ≡ 0) × ((IsDone o × (lines next ≡ lines begun)) ⊎ (lines next ≡ lines begun ++ o.task.line ∷ [])) → Left (o ∷ os) begun ended
  left_one o os begun next ended rest (none, inl h) = (
    none,
    (rest.1.0, subst (λ (l : List ℕ). lines ended ≡ l ++ rest.1.0) h.1 rest.1.1),
    All-cons (IsDoneOrAt (lines ended)) o os (inl h.0) rest.2,
  )
  left_one o os begun next ended rest (none, inr e) =
      let line : ℕ = o.task.line in
      let more : List ℕ = rest.1.0 in
      let all : lines ended ≡ (lines begun ++ line ∷ []) ++ more = subst (λ (l : List ℕ). lines ended ≡ l ++ more) e rest.1.1 in
      let at : Contains (lines ended) line = subst (λ (l : List ℕ). Contains l line) (sym all) (Contains-append_left (lines begun ++ line ∷ []) more line (Contains-push (lines begun) line)) in
      (none, (line ∷ more, all ∙ append_assoc (lines begun) (line ∷ []) more), All-cons (IsDoneOrAt (lines ended)) o os (inr at) rest.2)

  left : (told : List Outcome) (begun ended : O) → FoldsTo (λ (old : O) (o : Outcome) (new : O). leaves old o.task o.code new) begun told ended → failures ended ≡ 0 → Left told begun ended
  left [] begun ended same none = (ap failures same ∙ none, ([], ap lines (sym same) ∙ sym (append-nil (lines begun))), All-nil (IsDoneOrAt (lines ended)))
  left (o ∷ os) begun ended next none = let rest : Left os next.0 ended = left os next.0 ended next.2 none in left_one o os begun next.0 ended rest (next.1 rest.0)

  pub leaves_lines : {T : Type 0} (g : Ghosts T) (keys : List Key) (tasks : List Task) (before after : T) (begun ended : O)
      → IsWhole g leaves keys tasks before begun after ended → failures ended ≡ 0 → (failures begun ≡ 0) × LeavesLines g keys tasks before after (lines ended)
  leaves_lines g keys tasks before after begun ended whole none =
      let all : Left whole.0.told begun ended = left whole.0.told begun ended whole.1.told none in
      (all.0, (whole.0, asked_all g leaves keys tasks before after begun ended whole, all.2))
