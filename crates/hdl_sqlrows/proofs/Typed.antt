-- What the schema says of the rows of `opened`.
use Rattle.std.proofs.Common.{◌≡◌, [], ◌∷◌, true, ◌&&◌, drop, None, refl, subst}
use Rattle.std.specs.List.{AllByRecursion}
use Rattle.sqlite_value.specs.declared.value.Value.TheVariants.{Null, Int, Real, Text, Blob}
use Rattle.sqlite_value.specs.Order.{Row}
use Rattle.sqlite_trees.proofs.ListLemmas.{all_both}
use Rattle.sqlite_schema.specs.declared.schema.Constraint.TheVariants.{Datatype, NotNull}
use Rattle.sqlite_schema.specs.declared.schema.Schema.{Schema}
use Rattle.sqlite_schema.specs.Rules.{are_typed, are_present, has_computed}
use Rattle.sqlite_catalog.specs.Listing.{IsSound}
use Rattle.sqlite.specs.Effect.{Database, IsDatabase}
use Rattle.hdl_sqlrows.specs.Layout.{layout, opened_table}
use Rattle.hdl_sqlrows.specs.Opening.{IsOpenedRow}

-- a name that isn't null, of a column of octets
one_row : (row : Row) → (are_typed None 0 opened_table.columns (drop 1 row) && has_computed opened_table row) ≡ true → are_present None 0 opened_table.columns row ≡ true → IsOpenedRow row
one_row [] typed there = absurd cc
one_row (id ∷ []) typed there = absurd cc
one_row (id ∷ Null ∷ rest) typed there = absurd cc
one_row (id ∷ Int n ∷ rest) typed there = absurd cc
one_row (id ∷ Real x ∷ rest) typed there = absurd cc
one_row (id ∷ Text t ∷ rest) typed there = absurd cc
one_row (id ∷ Blob b ∷ rest) typed there = refl

pub typed_opened : (db : Database) → IsDatabase db → db.schema ≡ layout → AllByRecursion IsOpenedRow (db.trees 4)
typed_opened db sound is =
    let it = subst (λ (s : Schema). IsSound s db.trees) is sound in
    all_both _ _ IsOpenedRow one_row (db.trees 4) (it.obeys.rules Datatype).1.1.0 (it.obeys.rules NotNull).1.1.0
