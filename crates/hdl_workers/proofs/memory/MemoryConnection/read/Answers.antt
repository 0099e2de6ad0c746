use Rattle.std.proofs.Common.{rules, arith, ◌≡◌, ◌≤◌, ◌+◌, ◌-◌, ◌++◌, ℕ, List, length, take, drop, sym, ap, ◌∙◌, length-drop}
use Rattle.std.proofs.lemmas.List.{take_at, length-take}
use Rattle.std.proofs.Math.Seq.{take-add}
use Rattle.hdl_workers.specs.Memory.{connection_of}
use Rattle.hdl_workers.proofs.memory.MemoryConnection.read.Goals as goal

pub returns-clause-heard : goal.returns-clause-heard
returns-clause-heard c =
    let n = c.min-count.result in
    let s = c.args.self.now.incoming.items in
    let at = c.args.self.now.at in
    let back = drop n c.args.buffer.now in
    let copied : c.copy_from_slice.new.self ≡ take n (drop at s) = search rules in
    let fits : n ≤ length s - at = search rules in
    let len : length (take n (drop at s)) ≡ n = omega (arith, length-take n (drop at s), length-drop at s) in
    let e : take at s ++ take n (take n (drop at s) ++ back) ≡ take (at + n) s =
    ap (λ w. take at s ++ w) (take_at (take n (drop at s)) back n len) ∙ sym (take-add at n s) in
    rw copied (ap (λ (w : List ℕ). record (connection_of c.args.self.now) { read = w }) (sym e))
