use Rattle.std.proofs.Common.{◌≤◌, ◌^◌, ◌+◌, ◌-◌, vec_len}
use Rattle.std.specs.Io.KnownBytes.{Consumes}
use Rattle.hdl_programs.proofs.input.read_input.Given as goal

-- what was read is what the input lost
abbrev pub invariant-chunks : goal.invariant-chunks
invariant-chunks g l = Consumes (g.I.Read.remaining l.initial.input) (g.I.Read.remaining l.input) l.text.items × (vec_len l.text ≤ 2 ^ 24 + 1)

abbrev pub decreases-chunks : goal.decreases-chunks
decreases-chunks g l = 2 ^ 24 + 1 - vec_len l.text
