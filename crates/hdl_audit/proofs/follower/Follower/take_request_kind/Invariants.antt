use Rattle.std.proofs.Common.{◌≡◌}
use Rattle.hdl_audit.specs.Naming.{OnlyGains}
use Rattle.hdl_audit.proofs.follower.Follower.take_request_kind.Given as goal

abbrev pub invariant-loop : goal.invariant-loop
invariant-loop l = record {
  frames : OnlyGains l.initial.self.unanswered.items (λ _. ⊥) l.self.unanswered.items;
  challenged : l.self.challenged.items ≡ l.initial.self.challenged.items;
}
