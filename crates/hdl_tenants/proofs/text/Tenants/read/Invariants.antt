use Rattle.std.proofs.Common.{◌≡◌, ◌+◌, ◌≤◌, length, map}
use Rattle.hdl_tenants.specs.Register.{place}
use Rattle.hdl_tenants.specs.Taken.{Indexes}
use Rattle.hdl_tenants.specs.Text.{IsAccepted}
use Rattle.hdl_tenants.proofs.text.Tenants.read.Given as goal

-- the number counts the lines so far, which are accepted
abbrev pub invariant-loop-line : goal.invariant-loop-line
invariant-loop-line l = record {
  counted : l.number ≡ length l.yielded;
  bounded : l.number + goal.iterator-loop-line.remaining l.line-iterator ≤ goal.iterator-loop-line.remaining l.initial.line-iterator;
  accepted : IsAccepted (map (λ x. x.now) l.yielded) l.tenants;
  taken : Indexes l.taken (map place l.tenants.opening);
}
