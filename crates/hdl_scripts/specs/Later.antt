-- A file whose writes are made once it is said so.
use Rattle.std.specs.Prelude.{Bool, true, false}
use Rattle.sqlite.specs.State.{State}
use Rattle.hdl_rows.specs.Write.{CanWrite}
use Rattle.hdl_durablerows.specs.Durable.{Standing, Keeps, Makes, Doubts, IsKept, IsTried, IsDoubted}

-- What is known of the file, by whether the write that was begun was tried. Before that the database keeps the table, which allows the write.
abbrev pub StandsLater : Bool → State → Standing → Type 0
StandsLater is_tried s (Keeps t) = IsKept t s
StandsLater true s (Makes t w) = IsTried t w s
StandsLater false s (Makes t w) = IsKept t s × CanWrite t w
StandsLater is_tried s (Doubts t w) = IsDoubted t w s
