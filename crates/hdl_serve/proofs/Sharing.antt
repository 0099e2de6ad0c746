-- Turns, and between them changes of others.
use Rattle.std.proofs.Common.{◌≡◌, List, [], ◌∷◌, ◌++◌, Option, Some, map, MatchOption, refl, sym, ap, ◌∙◌, subst}
use Rattle.std.proofs.lemmas.List.{map-append, append-nil, append_assoc}
use Rattle.hdl_events.specs.declared.Event.{Event}
use Rattle.hdl_events.specs.declared.Outcome.{Outcome}
use Rattle.hdl_ops.specs.Tables.{apply, CanApply}
use Rattle.hdl_laws.specs.Worlds.{World, with_table}
use Rattle.hdl_laws.specs.Steps.{Turn}
use Rattle.hdl_laws.specs.Runs.{HasRun, IsRun, last, events, outcomes}
use Rattle.hdl_cluster_laws.specs.Shared.{Part, Took, TookOver, AreParts, after_parts, turns_in}
use Rattle.hdl_cluster_laws.proofs.Parts.{are_joined, after_joined, turns_joined, are_turns, after_turns, turns_back}
use Rattle.hdl_serve.specs.declared.news.StampedChange.{StampedChange}
use Rattle.hdl_serve.specs.Shared.{TakeOver}
use Rattle.hdl_serve.specs.Rounds.{HasRunBeside}

pub take_joined : (w : World) (ps qs : List Part) (cs ds : List StampedChange) → TakeOver w ps cs → TakeOver (after_parts w ps) qs ds → TakeOver w (ps ++ qs) (cs ++ ds)
take_joined w [] qs cs ds a b = subst (λ xs. TakeOver w qs (xs ++ ds)) (sym a) b
take_joined w (Took step ∷ ps) qs cs ds a b = take_joined step.after ps qs cs ds a b
take_joined w (TookOver table ∷ ps) qs [] ds a b = absurd a
take_joined w (TookOver table ∷ ps) qs (c ∷ cs) ds a b = (a.0, a.1, take_joined (with_table w table) ps qs cs ds a.2 b)

take_turns : (w : World) (turns : List Turn) → TakeOver w (map Took turns) []
take_turns w [] = refl
take_turns w (step ∷ turns) = take_turns step.after turns

pub beside_none : (w : World) → HasRunBeside w [] [] [] w
beside_none w = ([], tt, refl, refl, refl, refl)

-- a run is beside no changes
pub beside_run : (w new : World) (es : List Event) (os : List Outcome) → HasRun w es os new → HasRunBeside w [] es os new
beside_run w new es os run = (
  map Took run.0,
  are_turns w run.0 run.1,
  take_turns w run.0,
  ap events (turns_back run.0) ∙ run.2,
  ap outcomes (turns_back run.0) ∙ run.3,
  after_turns w run.0 ∙ run.4,
)

-- one change of others
pub beside_change : (w new : World) (c : StampedChange) → CanApply w.table c.change → new ≡ with_table w (apply w.table c.moment c.change) → HasRunBeside w (c ∷ []) [] [] new
beside_change w new c can is = (TookOver (apply w.table c.moment c.change) ∷ [], tt, (can, refl, refl), refl, refl, sym is)

pub beside_then : (w mid new : World) (cs ds : List StampedChange) (es fs : List Event) (os qs : List Outcome) → HasRunBeside w cs es os mid → HasRunBeside mid ds fs qs new → HasRunBeside w (cs ++ ds) (es ++ fs) (os ++ qs) new
beside_then w mid new cs ds es fs os qs a b = (
  a.0 ++ b.0,
  are_joined w a.0 b.0 a.1 (subst (λ x. AreParts x b.0) (sym a.5) b.1),
  take_joined w a.0 b.0 cs ds a.2 (subst (λ x. TakeOver x b.0 ds) (sym a.5) b.2),
  ap events (turns_joined a.0 b.0) ∙ map-append (λ (t : Turn). t.event) (turns_in a.0) (turns_in b.0) ∙ (λ i. a.3 i ++ b.3 i),
  ap outcomes (turns_joined a.0 b.0) ∙ map-append (λ (t : Turn). t.outcome) (turns_in a.0) (turns_in b.0) ∙ (λ i. a.4 i ++ b.4 i),
  after_joined w a.0 b.0 ∙ ap (λ x. after_parts x b.0) a.5 ∙ b.5,
)

-- parts without changes of others are a run
pub alone : (w : World) (ps : List Part) → AreParts w ps → TakeOver w ps [] → IsRun w (turns_in ps) × (last w (turns_in ps) ≡ after_parts w ps)
alone w [] are none = (tt, refl)
alone w (Took step ∷ ps) are none =
    let rest = alone step.after ps are.1 none in
    ((are.0, rest.0), rest.1)
alone w (TookOver table ∷ ps) are none = absurd none

-- ---- what the news gave

-- nothing was let in
pub lets_none : (w new : World) (known now : List StampedChange) → new ≡ w → now ≡ known → (cs : List StampedChange) × (now ≡ known ++ cs) × HasRunBeside w cs [] [] new
lets_none w new known now same is = ([], is ∙ sym (append-nil known), subst (HasRunBeside w [] [] []) (sym same) (beside_none w))

-- first some changes, and then others
pub lets_both : (w mid new : World) (known some now : List StampedChange) → ((cs : List StampedChange) × (some ≡ known ++ cs) × HasRunBeside w cs [] [] mid) → ((ds : List StampedChange) × (now ≡ some ++ ds) × HasRunBeside mid ds [] [] new)
    → (es : List StampedChange) × (now ≡ known ++ es) × HasRunBeside w es [] [] new
lets_both w mid new known some now a b = (a.0 ++ b.0, b.1 ∙ ap (λ xs. xs ++ b.0) a.1 ∙ append_assoc known a.0 b.0, beside_then w mid new a.0 b.0 [] [] [] [] a.2 b.2)

-- the change that was seen is the one that was let in
pub lets_one : (w new : World) (known now : List StampedChange) (seen : Option StampedChange) (c : StampedChange) → seen ≡ Some c → MatchOption seen (now ≡ known) (λ x. now ≡ known ++ x ∷ [])
    → CanApply w.table c.change → new ≡ with_table w (apply w.table c.moment c.change) → (cs : List StampedChange) × (now ≡ known ++ cs) × HasRunBeside w cs [] [] new
lets_one w new known now seen c is taken can done =
    (c ∷ [], subst (λ o. MatchOption o (now ≡ known) (λ x. now ≡ known ++ x ∷ [])) is taken, beside_change w new c can done)
