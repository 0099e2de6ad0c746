use Rattle.std.proofs.Common.{◌≡◌, length, ◌++◌, List, ℕ}
use Rattle.std.specs.Io.KnownBytes.{Appends}
use Rattle.hdl_programs.proofs.output.put_all.Given as goal

-- what is written so far, and what is left, is the whole
abbrev pub invariant-loop-rest : goal.invariant-loop-rest
invariant-loop-rest g l = (done : List ℕ) × (done ++ l.rest ≡ l.octets) × Appends (g.O.Write.contents l.initial.output) (g.O.Write.contents l.output) done

abbrev pub decreases-loop-rest : goal.decreases-loop-rest
decreases-loop-rest g l = length l.rest
