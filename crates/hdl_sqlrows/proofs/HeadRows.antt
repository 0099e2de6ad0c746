-- What the query of heads answers.
use Rattle.std.proofs.Common.{◌≡◌, ℕ, List, [], ◌∷◌, map, refl, ap, subst, ◌∙◌}
use Rattle.sqlite_value.specs.declared.keys.Collation.TheVariants.{Binary}
use Rattle.sqlite_value.specs.declared.value.Value.TheVariants.{Blob}
use Rattle.sqlite_value.specs.Keys.{ascending}
use Rattle.sqlite_value.specs.Order.{Row}
use Rattle.sqlite_trees.specs.Tree.{Trees}
use Rattle.sqlite_trees.specs.declared.memory.MemStore.{MemStore}
use Rattle.sqlite_sql.specs.Term.{col, eval_all}
use Rattle.sqlite.specs.Held.{Held, state}
use Rattle.sqlite.specs.State.{State, HasCleanDisk, Shown}
use Rattle.sqlite.specs.Steps.{over_memory}
use Rattle.sqlite.proofs.Callers.{reads_as, memory_is_clean}
use Rattle.hdl_rows.specs.Heads.{head, heads_of}
use Rattle.hdl_rows.specs.Table.{values_of, HaveTheirIndexes}
use Rattle.hdl_sqlrows.specs.Layout.{layout}
use Rattle.hdl_sqlrows.specs.Stored.{value_of, table_in, state_of, AreKept, IsBetweenCalls}
use Rattle.hdl_sqlrows.specs.Shows.{head_of}
use Rattle.hdl_sqlrows.proofs.Texts.{is_param, shown_terms, head_terms, select_heads, select_heads_is, heads_plain}
use Rattle.hdl_sqlrows.proofs.Listed.{Listed, listed}
use Rattle.hdl_sqlrows.proofs.Answered.{AreValues, lists_values}

-- rows that show the heads of a handle's values
pub record AreHeads (db : Trees) (h : List ℕ) (rows : List Row) : Type 0 where
  pub found : map head_of rows ≡ heads_of (table_in db) h
  pub by_index : HaveTheirIndexes (table_in db) h (values_of (table_in db) h)

-- a row of `entries`, as the query of whole values shows it
abbrev whole : Row → Row → Row
whole params r = eval_all shown_terms (params ∷ r ∷ [])

abbrev part : Row → Row → Row
part params r = eval_all head_terms (params ∷ r ∷ [])

heads_alike : (params : Row) (to : List Row) → map head_of (map (part params) to) ≡ map head (map value_of (map (whole params) to))
heads_alike params [] = refl
heads_alike params (r ∷ to) = λ k. head (value_of (whole params r)) ∷ heads_alike params to k

lists_heads : (db : Trees) (h : List ℕ) (rows : List Row) → AreKept db → Listed 2 (is_param 1 0 ∷ []) head_terms ((col 1 1, ascending Binary) ∷ (col 1 2, ascending Binary) ∷ []) db (Blob h ∷ []) rows → AreHeads db h rows
lists_heads db h rows kept l =
    let params : Row = Blob h ∷ [] in
    let values : AreValues db h (map (whole params) l.to) = lists_values db h (map (whole params) l.to) kept (record { to = l.to; moved = l.moved; sorted = l.sorted; shown = refl }) in
    record {
      found = ap (map head_of) l.shown ∙ heads_alike params l.to ∙ ap (map head) values.found;
      by_index = subst (HaveTheirIndexes (table_in db) h) values.found values.by_index;
    }

shown_heads : (old new : State) (h : List ℕ) (rows : List Row) → IsBetweenCalls old → Shown select_heads (Blob h ∷ []) old new rows → AreHeads old.now.trees h rows
shown_heads old new h rows settled shown =
    let got = reads_as select_heads (Blob h ∷ []) old new layout settled.whole.layout _ select_heads_is heads_plain.0 heads_plain.1 rows shown in
    lists_heads old.now.trees h rows settled.whole.kept (listed 2 _ _ _ old.now.trees (Blob h ∷ []) rows refl got.answer)

pub heads_found : (old new : Held MemStore) (h : List ℕ) (rows : List Row) → IsBetweenCalls (state_of old)
    → (HasCleanDisk (state over_memory new) → Shown select_heads (Blob h ∷ []) (state over_memory old) (state over_memory new) rows) → AreHeads (state_of old).now.trees h rows
unfolding state_of
heads_found old new h rows settled shows = shown_heads (state_of old) (state_of new) h rows settled (shows (memory_is_clean new))
