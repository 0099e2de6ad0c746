use Rattle.std.proofs.Common.{◌≡◌}
use Rattle.serde_json.specs.View.{members_view}
use Rattle.hdl_rest.specs.Shapes.{members_fit}
use Rattle.hdl_rest.proofs.shapes.Shape.has_all.Given as goal

abbrev pub invariant-loop-key : goal.invariant-loop-key
invariant-loop-key l = members_fit l.self (members_view l.key-iterator) ≡ members_fit l.self (members_view l.members.entries)
