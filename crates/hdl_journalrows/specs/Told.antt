-- A table whose writes stand in a journal.
use Rattle.std.specs.Prelude.{◌≡◌, List, [], ◌∷◌, ◌++◌}
use Rattle.hdl_rows.specs.Table.{no_rows}
use Rattle.hdl_rows.specs.Write.{Write}
use Rattle.hdl_journal.specs.Journal.{after_writes}
use Rattle.hdl_durablerows.specs.Durable.{Standing, Keeps, Makes, Doubts}
use Rattle.hdl_durablerows.specs.declared.durable_file.WriteState.{WriteState}
use Rattle.hdl_durablerows.specs.declared.durable_file.WriteState.TheVariants.{Made, Refused, Unknown, UnderWay}

-- the table is what the told writes make of an empty one, also while a write over it is being made; no write is in doubt
abbrev pub IsOfTold : List Write → Standing → Type 0
IsOfTold told (Keeps t) = t ≡ after_writes no_rows told
IsOfTold told (Makes t w) = t ≡ after_writes no_rows told
IsOfTold told (Doubts t w) = ⊥

-- what a journal has told after it was asked for a write: that it stands behind the others, or nothing more
abbrev pub Tells : WriteState → List Write → List Write → Write → Type 0
Tells Made old new w = new ≡ old ++ w ∷ []
Tells Refused old new w = new ≡ old
Tells Unknown old new w = ⊥
Tells UnderWay old new w = new ≡ old
