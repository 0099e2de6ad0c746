use Rattle.std.proofs.Common.{◌≡◌, ◌≤◌, ◌+◌, ◌-◌, ℕ, List, length, drop, arith, rules, length-drop, ap, sym, ◌∙◌}
use Rattle.std.proofs.lemmas.List.{drop-drop}
use Rattle.std.proofs.lemmas.Str.{IsCharBoundary-from_drop}
use Rattle.hdl_replay.proofs.script.parts_of.Goals as goal

-- past a piece of what stands past the first `read` octets
read_on : (text rest after : List ℕ) (read j : ℕ) → read ≤ length text → drop read text ≡ rest → after ≡ drop j rest → length after + j ≡ length rest → drop (length text - length after) text ≡ after
read_on text rest after read j h e a l =
    let n : length text - length after ≡ read + j = omega (arith, length-drop read text, ap length e) in
    rw n (sym (drop-drop j read text) ∙ ap (drop j) e ∙ sym a)

pub lines-preserved : goal.lines-preserved
lines-preserved c =
    let cut = c.in-Some.ensures.cases in
    let inv = c.lines.invariant in
    (read_on c.args.text.now c.lines.rest.now c.in-Some.after.now c.lines.read cut.1 inv.1 inv.0 cut.4 cut.7, omega arith, search rules)

pub split_at-requires : goal.split_at-requires
split_at-requires c =
    let inv = c.lines.invariant in
    IsCharBoundary-from_drop c.args.text.now c.lines.read inv.1 (rw inv.0 inv.2)

pub split_at-requires-then-eq-3 : goal.split_at-requires-then-eq-3
split_at-requires-then-eq-3 c =
    let inv = c.lines.invariant in
    IsCharBoundary-from_drop c.args.text.now c.lines.read inv.1 (rw inv.0 inv.2)
