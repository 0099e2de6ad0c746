use Rattle.std.proofs.Common.{◌≡◌, map}
use Rattle.std.specs.List.{flat_map}
use Rattle.hdl_tenants.specs.Lines.{fields_of}
use Rattle.hdl_export.specs.Prefixes.{prefix_given}
use Rattle.hdl_export.proofs.prefixes.prefixes_for.Given as goal

-- the prefixes that the lines so far name
abbrev pub invariant-loop-line : goal.invariant-loop-line
invariant-loop-line l = map (λ p. p.now) l.prefixes.items ≡ flat_map (λ line. prefix_given l.fn.publisher (fields_of line)) (map (λ x. x.now) l.yielded)
