use Rattle.std.proofs.Common.{◌≡◌, ◌≤◌, ◌+◌}
use Rattle.json.specs.Lex.{tokens}
use Rattle.hdl_rest.specs.Keys.{keys_in}
use Rattle.hdl_rest.proofs.keys.keys_in.Given as goal

abbrev pub invariant-loop : goal.invariant-loop
invariant-loop l = record {
  few : l.count ≤ l.counter;
  counted : l.count + keys_in l.reader ≡ keys_in (tokens l.text);
}
