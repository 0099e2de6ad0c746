-- What servers with one list of changes did are histories.
use Rattle.std.proofs.Common.{◌≡◌, ℕ, ◌<◌, List, [], ◌∷◌, cond, inl, inr, Option, Some, None, refl, sym, ap, ◌∙◌, subst}
use Rattle.std.proofs.lemmas.Bool.{eq-eqb, ne_eqb}
use Rattle.hdl_rows.specs.Table.{Table}
use Rattle.hdl_ops.specs.declared.change.Change.{Change}
use Rattle.hdl_ops.specs.Tables.{apply_if}
use Rattle.hdl_laws.specs.Worlds.{World, with_table, owner}
use Rattle.hdl_laws.specs.Steps.{Turn, IsStep, IsAnswerFor, moment_of}
use Rattle.hdl_laws.specs.Runs.{IsRun, last}
use Rattle.hdl_cluster_laws.specs.Together.{ServerTurn, at_server, world_after, KeepTable, AreTheirs}
use Rattle.hdl_cluster_laws.specs.Shared.{Part, Took, TookOver, AreParts, IsNextTurn, FollowsList, AreAmong, before_by, before_change, after_by, after_change, stages_of}
use Rattle.hdl_cluster_laws.specs.SharedLaws.{SharedAreHistories}

none_written : (t : Table) (m : ℕ) (o : Option Change) → o ≡ None → apply_if t m o ≡ t
none_written t m o e = ap (apply_if t m) e

-- a turn without a change keeps the table
kept_for : (w : World) (step : Turn) (o : Option ℕ) → IsAnswerFor w o step → step.change ≡ None → step.after.table ≡ w.table
kept_for w step None a none = ap (λ (z : Turn). z.after.table) a
kept_for w step (Some u) a none = ap (λ (z : Turn). z.after.table) a.4 ∙ none_written w.table (moment_of step.event.what) a.0.change (sym (ap (λ (z : Turn). z.change) a.4) ∙ none)

pub kept_by : (w : World) (step : Turn) → IsStep w step → step.change ≡ None → step.after.table ≡ w.table
kept_by w step (inl a) none = kept_for w step (owner w.site step.event.lane) a none
kept_by w step (inr b) none = ap (λ (z : Turn). z.after.table) b.busy

-- what a server did up to the next change of the list, and with it
record Front (server : ℕ) (w : World) (before : List Turn) (after : List Part) (c : ServerTurn) (cs : List ServerTurn) : Type 0 where
  pub run : IsRun w before
  pub keep : KeepTable w before
  pub own : c.server ≡ server → IsStep (last w before) c.step
  pub on : AreParts (world_after c server (last w before)) after
  pub along : FollowsList server after cs

own_world : (server : ℕ) (step : Turn) (w : World) → world_after (at_server server step) server w ≡ step.after
own_world server step w = ap (λ b. cond b step.after (with_table w step.after.table)) (eq-eqb server server refl)

other_world : (c : ServerTurn) (server : ℕ) (w : World) (t : Table) → (c.server ≡ server → ⊥) → c.step.after.table ≡ t → world_after c server w ≡ with_table w t
other_world c server w t other e =
    ap (λ b. cond b c.step.after (with_table w c.step.after.table)) (ne_eqb server c.server (λ is. other (sym is)))
    ∙ (λ i. with_table w (e i))

front : (server : ℕ) (w : World) (ps : List Part) (c : ServerTurn) (cs : List ServerTurn) → AreParts w ps → FollowsList server ps (c ∷ cs) → Front server w (before_change ps) (after_change ps) c cs
front server w [] c cs parts along = record { run = tt; keep = tt; own = λ e. absurd (along.0 e); on = tt; along = along.1 }
front server w (TookOver v ∷ ps) c cs parts along = record {
  run = tt;
  keep = tt;
  own = λ e. absurd (along.0 e);
  on = subst (λ x. AreParts x ps) (sym (other_world c server w v along.0 (sym along.1))) parts;
  along = along.2;
}
front server w (Took step ∷ ps) c cs parts along = took (λ rest. front server step.after ps c cs parts.1 rest) step.change refl along
  where
    took : (FollowsList server ps (c ∷ cs) → Front server step.after (before_change ps) (after_change ps) c cs) → (o : Option Change) → step.change ≡ o
        → IsNextTurn (at_server server step) o (FollowsList server ps) (c ∷ cs) → Front server w (before_by o step (before_change ps)) (after_by o ps (after_change ps)) c cs
    took later None none rest =
        let it = later rest in
        let same = kept_by w step parts.0 none in
        record {
          run = (parts.0, it.run);
          keep = (same, it.keep);
          own = it.own;
          on = it.on;
          along = it.along;
        }
    took later (Some change) some rest = record {
      run = tt;
      keep = tt;
      own = λ e. subst (λ (d : ServerTurn). IsStep w d.step) (sym rest.0) parts.0;
      on = subst (λ (d : ServerTurn). AreParts (world_after d server w) ps) (sym rest.0) (subst (λ x. AreParts x ps) (sym (own_world server step w)) parts.1);
      along = rest.1;
    }

-- the turns on the last table
record Last (w : World) (before : List Turn) : Type 0 where
  pub run : IsRun w before
  pub keep : KeepTable w before

final : (server : ℕ) (w : World) (ps : List Part) → AreParts w ps → FollowsList server ps [] → Last w (before_change ps)
final server w [] parts along = record { run = tt; keep = tt }
final server w (TookOver v ∷ ps) parts along = absurd along
final server w (Took step ∷ ps) parts along = took (λ rest. final server step.after ps parts.1 rest) step.change refl along
  where
    took : (FollowsList server ps [] → Last step.after (before_change ps)) → (o : Option Change) → step.change ≡ o → IsNextTurn (at_server server step) o (FollowsList server ps) []
        → Last w (before_by o step (before_change ps))
    took later None none rest =
        let it = later rest in
        record { run = (parts.0, it.run); keep = (kept_by w step parts.0 none, it.keep) }
    took later (Some change) some rest = absurd rest

pub shared_are_histories : SharedAreHistories
shared_are_histories servers worlds parts [] are along server lt =
    let it = final server (worlds server) (parts server) (are server lt) (along server lt) in
    (it.run, it.keep)
shared_are_histories servers worlds parts (c ∷ cs) are along server lt =
    let it : (s : ℕ) → s < servers → Front s (worlds s) (before_change (parts s)) (after_change (parts s)) c cs = λ s e. front s (worlds s) (parts s) c cs (are s e) (along s e) in
    let next : ℕ → World = λ s. world_after c s (last (worlds s) (before_change (parts s))) in
    let here = it server lt in
    let later = shared_are_histories servers next (λ s. after_change (parts s)) cs
    (λ s e. (it s e).on) (λ s e. (it s e).along) server lt in
    (here.run, here.keep, here.own, later)

pub theirs_of : (servers : ℕ) (parts : ℕ → List Part) (changes : List ServerTurn) → AreAmong servers changes → AreTheirs servers (stages_of parts changes)
theirs_of servers parts [] theirs = tt
theirs_of servers parts (c ∷ cs) theirs = (theirs.0, theirs_of servers (λ s. after_change (parts s)) cs theirs.1)
