-- A handle is deleted, and with it the entries that refer to it.
use Rattle.std.proofs.Common.{◌≡◌, inl, inr, ℕ, zero, suc, ℤ, List, [], ◌∷◌, ◌++◌, length, length-append, true, false, Ok, refl, ap, subst, ◌∙◌, arith}
use Rattle.std.specs.List.{list_any}
use Rattle.sqlite_value.specs.Order.{Row}
use Rattle.sqlite_value.specs.Keys.{plain, joined}
use Rattle.sqlite_schema.specs.Names.{same_name}
use Rattle.sqlite_trees.specs.Tree.{Trees}
use Rattle.sqlite_schema.specs.declared.schema.Keys.TheVariants.{Enforced}
use Rattle.sqlite_schema.specs.declared.schema.Reference.{Reference}
use Rattle.sqlite_schema.specs.declared.schema.Action.TheVariants.{NoAction, Cascade}
use Rattle.sqlite_rules.specs.declared.error.Rowids.TheVariants.{Given}
use Rattle.sqlite_rules.specs.declared.action.Deed.TheVariants.{Delete}
use Rattle.sqlite_rules.specs.Edit.{edit_of, without_all, taken_by, Applies}
use Rattle.sqlite_rules.specs.Action.{Work, works, loses, pairs, Writes, Leads, Acts, ActsOn, AreChildren}
use Rattle.hdl_sqlrows.specs.Layout.{layout, handles, entries}
use Rattle.std.specs.Prelude.{codes}
use Rattle.hdl_sqlrows.proofs.Parts.{no_index}

abbrev pub owner : Reference
owner = record { columns = 1 ∷ []; parent = codes "handles"; parent_columns = codes "name" ∷ []; on_delete = Cascade; on_update = NoAction; is_deferred = false }

-- what remains to be done once these handles are gone
abbrev pub work_on : List Row → Work
work_on olds = record { depth = 0; child = entries; ref = owner; places = 1 ∷ []; order = plain; deed = Delete; moves = pairs olds [] }

works_are : (olds : List Row) → list_any (loses plain (1 ∷ [])) (pairs olds []) ≡ true → works layout Enforced 0 0 olds [] ≡ work_on olds ∷ []
unfolding same_name joined
works_are olds some = rw some refl

-- nothing is left to do
settled : (n : ℕ) (mid next : Trees) → Leads layout Enforced n mid [] (Ok next) → next ≡ mid
settled zero mid next h = let e = h.1 in cc
settled (suc n) mid next h = absurd (omega (arith, ap length h.2, length-append h.0 (h.1 ∷ [])))

pub record Cascades (db : Trees) (olds : List Row) (mid next : Trees) : Type 0 where
  pub ids : List ℤ
  pub children : AreChildren mid (work_on olds) ids
  pub handles_are : next 0 ≡ mid 0
  pub opened_are : next 4 ≡ mid 4
  pub entries_are : next 2 ≡ without_all (mid 2) ids

-- the entries are deleted in one step, which sets off nothing more
acted : (n : ℕ) (db mid next : Trees) (olds : List Row) (ids : List ℤ) → AreChildren mid (work_on olds) ids
    → ActsOn layout Enforced (Leads layout Enforced n) mid (work_on olds) [] (Ok next) ids → Cascades db olds mid next
unfolding same_name joined
acted n db mid next olds [] children h = let same = settled n mid next h in record { ids = []; children = children; handles_are = ap (λ (t : Trees). t 0) same; opened_are = ap (λ (t : Trees). t 4) same; entries_are = ap (λ (t : Trees). t 2) same }
acted n db mid next olds (id ∷ ids) children (inl refused) = absurd (let e = refused.2 in cc)
acted n db mid next olds (id ∷ ids) children (inr (inl big)) = absurd (let e = big.3 in cc)
acted n db mid next olds (id ∷ ids) children (inr (inr went)) =
    let same = settled n went.0 next went.2 in
    record {
      ids = id ∷ ids;
      children = children;
      handles_are = ap (λ (t : Trees). t 0) same ∙ went.1.others 0 (λ e. omega (arith, e)) (no_index 0 (inl refl));
      opened_are = ap (λ (t : Trees). t 4) same ∙ went.1.others 4 (λ e. omega (arith, e)) (no_index 4 (inr (inr refl)));
      entries_are = ap (λ (t : Trees). t 2) same ∙ went.1.rows;
    }

led_at : (n : ℕ) (db mid next : Trees) (olds : List Row) (below : List Work) (w : Work) → work_on olds ∷ [] ≡ below ++ w ∷ [] → Acts layout Enforced (Leads layout Enforced n) mid w below (Ok next) → Cascades db olds mid next
led_at n db mid next olds [] w e h =
    let same : w ≡ work_on olds = cc in
    let g = subst (λ v. Acts layout Enforced (Leads layout Enforced n) mid v [] (Ok next)) same h in
    acted n db mid next olds g.0 g.1 g.2
led_at n db mid next olds (x ∷ below) w e h = absurd (omega (arith, ap length e, length-append below (w ∷ [])))

led : (n : ℕ) (db mid next : Trees) (olds : List Row) → Leads layout Enforced n mid (work_on olds ∷ []) (Ok next) → Cascades db olds mid next
led zero db mid next olds h = absurd (let e = h.0 in cc)
led (suc n) db mid next olds h = led_at n db mid next olds h.0 h.1 h.2 h.3

pub cascades : (db next : Trees) (gone : List ℤ) → let edit = edit_of db handles gone Given 0 [] in list_any (loses plain (1 ∷ [])) (pairs (taken_by db edit) []) ≡ true
    → Writes layout Enforced db edit (Ok next) → (mid : Trees) × Applies layout Enforced db edit mid × Cascades db (taken_by db edit) mid next
cascades db next gone some (inl refused) = absurd (let e = refused.2 in cc)
cascades db next gone some (inr (inl big)) = absurd (let e = big.3 in cc)
cascades db next gone some (inr (inr went)) =
    let edit = edit_of db handles gone Given 0 [] in
    let ends = subst (λ stack. Leads layout Enforced went.2.0 went.0 ([] ++ stack) (Ok next)) (works_are (taken_by db edit) some) went.2.1 in
    (went.0, went.1, led went.2.0 db went.0 next (taken_by db edit) ends)
