-- What a journal has told, and which change is seen.
use Rattle.std.specs.Prelude.{Bool, true, false, List, [], ◌∷◌, map, Option, Some, None}
use Rattle.hdl_rows.specs.Write.{Write}
use Rattle.hdl_durablerows.specs.Writes.{write_in}
use Rattle.hdl_serve.specs.declared.news.StampedChange.{StampedChange}
use Rattle.hdl_cluster.specs.declared.journal.Written.{Written}

-- the writes that were taken, in their order
abbrev pub told_by : List Written → List Write
told_by all = map (λ w. write_in w.write) all

-- the next change, if it was looked for and is there
abbrev pub seen_by : Bool → List StampedChange → Option StampedChange
seen_by false changes = None
seen_by true [] = None
seen_by true (change ∷ changes) = Some change
