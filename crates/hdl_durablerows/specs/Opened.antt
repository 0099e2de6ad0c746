-- What a table is behind an opening.
use Rattle.std.specs.Prelude.{◌≡◌, ◌⊎◌, List}
use Rattle.sqlite.specs.State.{State}
use Rattle.hdl_rows.specs.Table.{Table}
use Rattle.hdl_sqlrows.specs.Layout.{layout, no_schema}
use Rattle.hdl_sqlrows.specs.Opening.{First, opened_with, filed_base, no_base}

-- The table that a database has once these handles were opened in it, each that was never opened there: over nothing in a new database, else over what it has.
abbrev pub IsOpenedIn : State → List First → Table → Type 0
IsOpenedIn s firsts t =
    ((s.now.schema ≡ no_schema) × (t ≡ (opened_with no_base firsts).table))
    ⊎ ((s.now.schema ≡ layout) × (t ≡ (opened_with (filed_base s) firsts).table))
