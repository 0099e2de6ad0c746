-- What is known of administrators, and when it is true of a table.
use Rattle.std.specs.Prelude.{All, IfSome}
use Rattle.hdl_rows.specs.Table.{Table}
use Rattle.hdl_reach.specs.Search.{IsSearch}
pub use Rattle.hdl_reach.specs.Search.{AgreeBeside}
use Rattle.hdl_cache.specs.declared.searches.MasksAndSearches.{MasksAndSearches}
use Rattle.hdl_reach.specs.Reach.{IsMask}
use Rattle.hdl_reach.specs.Views.{mask_of}
use Rattle.hdl_cache.specs.declared.last.LastMask.{LastMask}
use Rattle.hdl_cache.specs.Masks.{AreMasks, subject_of}

-- the cached masks, and the searches, are the table's
abbrev pub AreTrue : Table → MasksAndSearches → Type 0
AreTrue t m = AreMasks t m.kept × All (IsSearch t) m.searches.items

-- the mask that was found last is the table's
abbrev pub IsLast : Table → LastMask → Type 0
IsLast t last = IfSome last.found (λ it. IsMask t (subject_of it.pair).handle (subject_of it.pair).key (mask_of it.mask))
