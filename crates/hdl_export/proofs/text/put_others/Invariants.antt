use Rattle.std.proofs.Common.{◌≡◌, ◌++◌, map}
use Rattle.std.specs.Prelude.{filter}
use Rattle.hdl_export.specs.Lines.{text_of, is_other}
use Rattle.hdl_export.proofs.text.put_others.Given as goal

-- the lines so far that say no value are written
abbrev pub invariant-loop-line : goal.invariant-loop-line
invariant-loop-line l = l.out.items ≡ l.fn.out.items ++ text_of (filter is_other (map (λ x. x.now) l.yielded))
