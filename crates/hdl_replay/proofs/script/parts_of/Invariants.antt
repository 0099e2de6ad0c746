use Rattle.std.proofs.Common.{◌≡◌, ◌≤◌, length, drop}
use Rattle.hdl_replay.proofs.script.parts_of.Given as goal
use denote.Text.{Utf8}
use denote.Shadow.{shadow}

-- `rest` is what stands past the octets that were read
abbrev pub invariant-lines : goal.invariant-lines
invariant-lines l = (drop l.read l.text ≡ l.rest) × (l.read ≤ length l.text) × shadow (Utf8 l.rest)

abbrev pub decreases-lines : goal.decreases-lines
decreases-lines l = length l.rest
