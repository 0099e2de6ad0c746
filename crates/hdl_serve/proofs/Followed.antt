-- Servers whose changes are one list follow it, table by table.
use Rattle.std.proofs.Common.{◌≡◌, ℕ, ◌<◌, List, [], ◌∷◌, inl, inr, Option, Some, None, refl, sym, ap, ◌∙◌, subst}
use Rattle.hdl_rows.specs.Table.{Table}
use Rattle.hdl_ops.specs.declared.change.Change.{Change}
use Rattle.hdl_ops.specs.Tables.{apply, apply_if}
use Rattle.hdl_laws.specs.Worlds.{World, with_table, owner}
use Rattle.hdl_laws.specs.Steps.{Turn, IsStep, IsAnswerFor, moment_of}
use Rattle.hdl_cluster_laws.specs.Together.{ServerTurn, at_server}
use Rattle.hdl_cluster_laws.specs.Shared.{Part, Took, TookOver, AreParts, AreAmong, IsNextTurn, FollowsList}
use Rattle.hdl_cluster_laws.proofs.Following.{kept_by}
use Rattle.hdl_serve.specs.declared.news.StampedChange.{StampedChange}
use Rattle.hdl_serve.specs.Shared.{TakeOver, IsAsInTurn, FollowsChanges}

no_change : {X : Type 0} (o : Option Change) (change : Change) → o ≡ None → o ≡ Some change → X
no_change o change none some = let both : None ≡ Some change = sym none ∙ some in absurd cc

-- a turn's change is made on the table before it
changed_for : (w : World) (step : Turn) (change : Change) (o : Option ℕ) → IsAnswerFor w o step → step.change ≡ Some change → step.after.table ≡ apply w.table (moment_of step.event.what) change
changed_for w step change None a some = no_change step.change change (ap (λ (t : Turn). t.change) a) some
changed_for w step change (Some u) a some =
    ap (λ (t : Turn). t.after.table) a.4 ∙ ap (apply_if w.table (moment_of step.event.what)) (sym (ap (λ (t : Turn). t.change) a.4) ∙ some)

changed_by : (w : World) (step : Turn) (change : Change) → IsStep w step → step.change ≡ Some change → step.after.table ≡ apply w.table (moment_of step.event.what) change
changed_by w step change (inl a) some = changed_for w step change (owner w.site step.event.lane) a some
changed_by w step change (inr b) some = no_change step.change change (ap (λ (t : Turn). t.change) b.busy) some

-- the next change of the list makes this table of that one
abbrev Makes : ServerTurn → Table → Type 0
Makes next table = (c : StampedChange) → IsAsInTurn next.step c → next.step.after.table ≡ apply table c.moment c.change

-- so it is, as the server that made it says
makes : (s : ℕ) (w : World) (ps : List Part) (news : List StampedChange) (next : ServerTurn) (changes : List ServerTurn) (table : Table)
    → next.server ≡ s → w.table ≡ table → AreParts w ps → FollowsChanges s ps news (next ∷ changes) → Makes next table
makes s w [] news next changes table own at are along = absurd (along.0 own)
makes s w (TookOver t ∷ ps) [] next changes table own at are along = absurd along
makes s w (TookOver t ∷ ps) (c ∷ news) next changes table own at are along = absurd (along.0 own)
makes s w (Took step ∷ ps) news next changes table own at are along = took (λ same rest. makes s step.after ps news next changes table own same are.1 rest) step.change refl along
  where
    took : (step.after.table ≡ table → FollowsChanges s ps news (next ∷ changes) → Makes next table) → (o : Option Change) → step.change ≡ o
        → IsNextTurn (at_server s step) o (FollowsChanges s ps news) (next ∷ changes) → Makes next table
    took later None none rest = later (kept_by w step are.0 none ∙ at) rest
    took later (Some change) some rest = λ c is.
        let mine : IsAsInTurn step c = subst (λ (d : ServerTurn). IsAsInTurn d.step c) rest.0 is in
        ap (λ (d : ServerTurn). d.step.after.table) rest.0 ∙ changed_by w step mine.0 are.0 mine.1
        ∙ ap (λ t. apply t (moment_of step.event.what) mine.0) at ∙ mine.2 table

-- a server behind the next change of the list
record Behind (s : ℕ) (ps : List Part) (next : ServerTurn) (changes : List ServerTurn) : Type 0 where
  pub world : World
  pub parts : List Part
  pub news : List StampedChange
  pub table : world.table ≡ next.step.after.table
  pub are : AreParts world parts
  pub take : TakeOver world parts news
  pub along : FollowsChanges s parts news changes
  pub back : FollowsList s parts changes → FollowsList s ps (next ∷ changes)

behind : (s : ℕ) (w : World) (ps : List Part) (news : List StampedChange) (next : ServerTurn) (changes : List ServerTurn) (table : Table)
    → Makes next table → w.table ≡ table → AreParts w ps → TakeOver w ps news → FollowsChanges s ps news (next ∷ changes) → Behind s ps next changes
behind s w [] news next changes table made at are take along = record {
  world = with_table w next.step.after.table;
  parts = [];
  news = [];
  table = refl;
  are = tt;
  take = refl;
  along = along.1;
  back = λ rest. (along.0, rest);
}
behind s w (TookOver t ∷ ps) [] next changes table made at are take along = absurd along
behind s w (TookOver t ∷ ps) (c ∷ news) next changes table made at are take along =
    let same : t ≡ next.step.after.table = take.1 ∙ ap (λ x. apply x c.moment c.change) at ∙ sym (made c along.1) in
    record {
      world = with_table w t;
      parts = ps;
      news = news;
      table = same;
      are = are;
      take = take.2;
      along = along.2;
      back = λ rest. (along.0, same, rest);
    }
behind s w (Took step ∷ ps) news next changes table made at are take along = took (λ same rest. behind s step.after ps news next changes table made same are.1 take rest) step.change refl along
  where
    took : (step.after.table ≡ table → FollowsChanges s ps news (next ∷ changes) → Behind s ps next changes) → (o : Option Change) → step.change ≡ o
        → IsNextTurn (at_server s step) o (FollowsChanges s ps news) (next ∷ changes) → Behind s (Took step ∷ ps) next changes
    took later None none rest =
        let it = later (kept_by w step are.0 none ∙ at) rest in
        record {
          world = it.world;
          parts = it.parts;
          news = it.news;
          table = it.table;
          are = it.are;
          take = it.take;
          along = it.along;
          back = λ more. subst (λ o. IsNextTurn (at_server s step) o (FollowsList s ps) (next ∷ changes)) (sym none) (it.back more);
        }
    took later (Some change) some rest = record {
      world = step.after;
      parts = ps;
      news = news;
      table = sym (ap (λ (d : ServerTurn). d.step.after.table) rest.0);
      are = are.1;
      take = take;
      along = rest.1;
      back = λ more. subst (λ o. IsNextTurn (at_server s step) o (FollowsList s ps) (next ∷ changes)) (sym some) (rest.0, more);
    }

-- behind the last change
at_the_end : (s : ℕ) (ps : List Part) (news : List StampedChange) → FollowsChanges s ps news [] → FollowsList s ps []
at_the_end s [] news along = tt
at_the_end s (TookOver t ∷ ps) [] along = absurd along
at_the_end s (TookOver t ∷ ps) (c ∷ news) along = absurd along
at_the_end s (Took step ∷ ps) news along = took (λ rest. at_the_end s ps news rest) step.change along
  where
    took : (FollowsChanges s ps news [] → FollowsList s ps []) → (o : Option Change) → IsNextTurn (at_server s step) o (FollowsChanges s ps news) [] → IsNextTurn (at_server s step) o (FollowsList s ps) []
    took later None rest = later rest
    took later (Some change) rest = absurd rest

pub follow : (servers : ℕ) (worlds : (s : ℕ) → s < servers → World) (parts : (s : ℕ) → s < servers → List Part) (news : (s : ℕ) → s < servers → List StampedChange) (changes : List ServerTurn) (table : Table)
    → ((s : ℕ) (is : s < servers) → (worlds s is).table ≡ table) → AreAmong servers changes → ((s : ℕ) (is : s < servers) → AreParts (worlds s is) (parts s is))
    → ((s : ℕ) (is : s < servers) → TakeOver (worlds s is) (parts s is) (news s is)) → ((s : ℕ) (is : s < servers) → FollowsChanges s (parts s is) (news s is) changes)
    → (s : ℕ) (is : s < servers) → FollowsList s (parts s is) changes
follow servers worlds parts news [] table at among are take along s is = at_the_end s (parts s is) (news s is) (along s is)
follow servers worlds parts news (next ∷ changes) table at among are take along s is =
    let maker : ℕ = next.server in
    let made : Makes next table = makes maker (worlds maker among.0) (parts maker among.0) (news maker among.0) next changes table refl (at maker among.0) (are maker among.0) (along maker among.0) in
    let it : (r : ℕ) (e : r < servers) → Behind r (parts r e) next changes = λ r e. behind r (worlds r e) (parts r e) (news r e) next changes table made (at r e) (are r e) (take r e) (along r e) in
    (it s is).back (follow servers (λ r e. (it r e).world) (λ r e. (it r e).parts) (λ r e. (it r e).news) changes next.step.after.table
    (λ r e. (it r e).table) among.1 (λ r e. (it r e).are) (λ r e. (it r e).take) (λ r e. (it r e).along) s is)
