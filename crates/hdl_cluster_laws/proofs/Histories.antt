-- What each server did by itself are steps of all together.
use Rattle.std.proofs.Common.{◌≡◌, ℕ, zero, suc, ◌<◌, List, [], ◌∷◌, ◌++◌, Bool, true, false, cond, ◌==◌, map, refl, sym, ap, ◌∙◌, subst, arith, nat_lt}
use Rattle.std.proofs.lemmas.Bool.{eqb-true, eq-eqb}
use Rattle.std.proofs.lemmas.Bool.Decides.{nat_tests}
use Rattle.hdl_rows.specs.Table.{Table}
use Rattle.hdl_laws.specs.Worlds.{World, with_table}
use Rattle.hdl_laws.specs.Steps.{Turn, IsStep}
use Rattle.hdl_laws.specs.Runs.{IsRun, last}
use Rattle.hdl_cluster_laws.specs.Together.{ServerTurn, at_server, worlds_after, last_worlds, AreSteps, KeepTable, IsHistory, turns_of_first, all_turns}
use Rattle.hdl_cluster_laws.specs.Laws.{HistoriesAreSteps}

-- worlds with another one at a server
abbrev put : (ℕ → World) → ℕ → World → ℕ → World
put worlds n w r = cond (r == n) w (worlds r)

put_there : (worlds : ℕ → World) (n : ℕ) (w : World) → put worlds n w n ≡ w
put_there worlds n w = ap (λ b. cond b w (worlds n)) (eq-eqb n n refl)

put_again : (worlds : ℕ → World) (n : ℕ) (v w : World) → put (put worlds n v) n w ≡ put worlds n w
put_again worlds n v w = λ i r. pick (r == n) r i
  where
    pick : (b : Bool) (r : ℕ) → cond b w (cond b v (worlds r)) ≡ cond b w (worlds r)
    pick true r = refl
    pick false r = refl

put_same : (worlds : ℕ → World) (n : ℕ) → put worlds n (worlds n) ≡ worlds
put_same worlds n = λ i r. pick (r == n) refl i
  where
    pick : {r : ℕ} (b : Bool) → (r == n) ≡ b → cond b (worlds n) (worlds r) ≡ worlds r
    pick {r} true e = ap worlds (sym (eqb-true r n e))
    pick false e = refl

same_table : (w : World) (t : Table) → t ≡ w.table → with_table w t ≡ w
same_table w t e = λ i. with_table w (e i)

-- a turn that keeps the table touches its server alone
kept_turn : (worlds : ℕ → World) (n : ℕ) (t : Turn) (table : Table) → ((r : ℕ) → (worlds r).table ≡ table) → t.after.table ≡ (worlds n).table → worlds_after worlds (at_server n t) ≡ put worlds n t.after
kept_turn worlds n t table alike kept = λ i r. pick (r == n) r i
  where
    pick : (b : Bool) (r : ℕ) → cond b t.after (with_table (worlds r) t.after.table) ≡ cond b t.after (worlds r)
    pick true r = refl
    pick false r = same_table (worlds r) t.after.table (kept ∙ alike n ∙ sym (alike r))

put_alike : (worlds : ℕ → World) (n : ℕ) (w : World) (table : Table) → ((r : ℕ) → (worlds r).table ≡ table) → w.table ≡ table → (r : ℕ) → (put worlds n w r).table ≡ table
put_alike worlds n w table alike e r = pick (r == n)
  where
    pick : (b : Bool) → (cond b w (worlds r)).table ≡ table
    pick true = e
    pick false = alike r

-- steps in a row
steps_on : (worlds : ℕ → World) (ps qs : List ServerTurn) → AreSteps worlds ps → AreSteps (last_worlds worlds ps) qs → AreSteps worlds (ps ++ qs)
steps_on worlds [] qs a b = b
steps_on worlds (p ∷ ps) qs a b = (a.0, steps_on (worlds_after worlds p) ps qs a.1 b)

last_on : (worlds : ℕ → World) (ps qs : List ServerTurn) → last_worlds worlds (ps ++ qs) ≡ last_worlds (last_worlds worlds ps) qs
last_on worlds [] qs = refl
last_on worlds (p ∷ ps) qs = last_on (worlds_after worlds p) ps qs

-- the turns of one server that keep the table
record Alone (worlds : ℕ → World) (n : ℕ) (ts : List Turn) (table : Table) : Type 0 where
  pub steps : AreSteps worlds (map (at_server n) ts)
  pub worlds_then : last_worlds worlds (map (at_server n) ts) ≡ put worlds n (last (worlds n) ts)
  pub table_then : (last (worlds n) ts).table ≡ table

alone : (worlds : ℕ → World) (n : ℕ) (ts : List Turn) (table : Table) → ((r : ℕ) → (worlds r).table ≡ table) → IsRun (worlds n) ts → KeepTable (worlds n) ts → Alone worlds n ts table
alone worlds n [] table alike run kept = record { steps = tt; worlds_then = sym (put_same worlds n); table_then = alike n }
alone worlds n (t ∷ ts) table alike run kept =
    let next = put worlds n t.after in
    let is : worlds_after worlds (at_server n t) ≡ next = kept_turn worlds n t table alike kept.0 in
    let there : next n ≡ t.after = put_there worlds n t.after in
    let it : Alone next n ts table =
    alone next n ts table (put_alike worlds n t.after table alike (kept.0 ∙ alike n)) (subst (λ w. IsRun w ts) (sym there) run.1) (subst (λ w. KeepTable w ts) (sym there) kept.1) in
    record {
      steps = (run.0, subst (λ ws. AreSteps ws (map (at_server n) ts)) (sym is) it.steps);
      worlds_then =
          ap (λ ws. last_worlds ws (map (at_server n) ts)) is ∙ it.worlds_then
          ∙ put_again worlds n t.after (last (next n) ts) ∙ ap (λ w. put worlds n (last w ts)) there;
      table_then = ap (λ w. (last w ts).table) (sym there) ∙ it.table_then;
    }

-- the worlds once the first servers have had their turns
abbrev staged : (ℕ → World) → (ℕ → List Turn) → ℕ → ℕ → World
staged worlds turns n r = cond (nat_lt r n) (last (worlds r) (turns r)) (worlds r)

not_below : (n : ℕ) → nat_lt n n ≡ false
not_below n = grind (arith, nat_tests)

below_none : (r : ℕ) → nat_lt r 0 ≡ false
below_none r = grind (arith, nat_tests)

below_next : (r n : ℕ) → (r == n) ≡ true → nat_lt r (suc n) ≡ true
below_next r n e = grind (arith, nat_tests)

below_same : (r n : ℕ) → (r == n) ≡ false → nat_lt r (suc n) ≡ nat_lt r n
below_same r n e = grind (arith, nat_tests)

is_below : (r n : ℕ) → r < n → nat_lt r n ≡ true
is_below r n e = grind (arith, nat_tests)

staged_next : (worlds : ℕ → World) (turns : ℕ → List Turn) (n : ℕ) → put (staged worlds turns n) n (last (worlds n) (turns n)) ≡ staged worlds turns (suc n)
staged_next worlds turns n = λ i r. pick r (r == n) refl i
  where
    pick : (r : ℕ) (b : Bool) → (r == n) ≡ b → cond b (last (worlds n) (turns n)) (staged worlds turns n r) ≡ staged worlds turns (suc n) r
    pick r true e = ap (λ k. last (worlds k) (turns k)) (sym (eqb-true r n e)) ∙ sym (ap (λ b. cond b (last (worlds r) (turns r)) (worlds r)) (below_next r n e))
    pick r false e = sym (ap (λ b. cond b (last (worlds r) (turns r)) (worlds r)) (below_same r n e))

record Staged (worlds : ℕ → World) (turns : ℕ → List Turn) (n : ℕ) (table : Table) : Type 0 where
  pub steps : AreSteps worlds (turns_of_first n turns)
  pub worlds_then : last_worlds worlds (turns_of_first n turns) ≡ staged worlds turns n
  pub alike : (r : ℕ) → (staged worlds turns n r).table ≡ table

all_staged : (worlds : ℕ → World) (turns : ℕ → List Turn) (table : Table) (n : ℕ)
    → ((r : ℕ) → (worlds r).table ≡ table) → ((r : ℕ) → r < n → IsRun (worlds r) (turns r)) → ((r : ℕ) → r < n → KeepTable (worlds r) (turns r)) → Staged worlds turns n table
all_staged worlds turns table zero alike run kept = record {
  steps = tt;
  worlds_then = λ i r. sym (ap (λ b. cond b (last (worlds r) (turns r)) (worlds r)) (below_none r)) i;
  alike = λ r. ap (λ b. (cond b (last (worlds r) (turns r)) (worlds r)).table) (below_none r) ∙ alike r;
}
all_staged worlds turns table (suc n) alike run kept =
    let before = all_staged worlds turns table n alike (λ r e. run r (omega (arith, e))) (λ r e. kept r (omega (arith, e))) in
    let mid = staged worlds turns n in
    let there : mid n ≡ worlds n = ap (λ b. cond b (last (worlds n) (turns n)) (worlds n)) (not_below n) in
    let it : Alone mid n (turns n) table =
    alone mid n (turns n) table before.alike (subst (λ w. IsRun w (turns n)) (sym there) (run n (omega arith))) (subst (λ w. KeepTable w (turns n)) (sym there) (kept n (omega arith))) in
    let after : put mid n (last (mid n) (turns n)) ≡ staged worlds turns (suc n) = ap (λ w. put mid n (last w (turns n))) there ∙ staged_next worlds turns n in
    record {
      steps = steps_on worlds (turns_of_first n turns) (map (at_server n) (turns n)) before.steps
          (subst (λ ws. AreSteps ws (map (at_server n) (turns n))) (sym before.worlds_then) it.steps);
      worlds_then = last_on worlds (turns_of_first n turns) (map (at_server n) (turns n)) ∙ ap (λ ws. last_worlds ws (map (at_server n) (turns n))) before.worlds_then ∙ it.worlds_then ∙ after;
      alike = λ r. ap (λ ws. (ws r).table) (sym after) ∙ put_alike mid n (last (mid n) (turns n)) table before.alike it.table_then r;
    }

-- the tables are alike again once a change was made
changed_alike : (worlds : ℕ → World) (p : ServerTurn) (r : ℕ) → (worlds_after worlds p r).table ≡ p.step.after.table
changed_alike worlds p r = pick (r == p.server)
  where
    pick : (b : Bool) → (cond b p.step.after (with_table (worlds r) p.step.after.table)).table ≡ p.step.after.table
    pick true = refl
    pick false = refl

pub histories_are_steps : HistoriesAreSteps
histories_are_steps servers worlds [] end table alike theirs each = (all_staged worlds end table servers alike (λ r e. (each r e).0) (λ r e. (each r e).1)).steps
histories_are_steps servers worlds (s ∷ rest) end table alike theirs each =
    let change : ServerTurn = s.change in
    let it = all_staged worlds s.turns table servers alike (λ r e. (each r e).0) (λ r e. (each r e).1) in
    let mid = staged worlds s.turns servers in
    let here : (r : ℕ) → r < servers → mid r ≡ last (worlds r) (s.turns r) = λ r e. ap (λ b. cond b (last (worlds r) (s.turns r)) (worlds r)) (is_below r servers e) in
    let step : IsStep (mid change.server) change.step = subst (λ w. IsStep w change.step) (sym (here change.server theirs.0)) ((each change.server theirs.0).2 refl) in
    let later = histories_are_steps servers (worlds_after mid change) rest end change.step.after.table (changed_alike mid change) theirs.1
    (λ r e. subst (λ w. IsHistory r w rest end) (ap (λ w. cond (r == change.server) change.step.after (with_table w change.step.after.table)) (sym (here r e))) (each r e).3) in
    steps_on worlds (turns_of_first servers s.turns) (change ∷ all_turns servers rest end) it.steps
    (subst (λ ws. AreSteps ws (change ∷ all_turns servers rest end)) (sym it.worlds_then) (step, later))
