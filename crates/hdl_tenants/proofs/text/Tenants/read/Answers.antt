use Rattle.std.proofs.Common.{◌≡◌, ◌++◌, ◌∷◌, [], List, ℕ, ◌+◌, ◌<◌, Bor, length, map, take, drop, get_or, arith, sym, ap, ◌∙◌, refl}
use Rattle.std.specs.Str.Lines.{lines}
use Rattle.std.proofs.lemmas.Grind.{common_steps}
use Rattle.std.proofs.lemmas.List.{take-append-drop, drop_more, map-append, length-map}
use Rattle.std.proofs.lemmas.Iterator.Splits.{YieldsList-from_lines}
use Rattle.std.proofs.lemmas.Iterator.Consumers.{YieldsList-at, YieldsList-so_far, YieldsList-turn, YieldsList-end}
use Rattle.hdl_tenants.specs.Register.{empty}
use Rattle.hdl_tenants.proofs.Registers.{AddsAll-push, all_added, empty_is}
use Rattle.hdl_tenants.proofs.text.Tenants.read.Goals as goal

-- a list about one of its elements
around : (xs : List (List ℕ)) (front : List (List ℕ)) (k : ℕ) (x : List ℕ) → front ≡ take k xs → k < length xs → x ≡ get_or xs k x → xs ≡ front ++ x ∷ drop (k + 1) xs
around xs front k x before inside is =
    sym (take-append-drop k xs) ∙ ap (λ ys. take k xs ++ ys) (drop_more xs k x inside) ∙ rw (before, ← is) refl

pub returns-in-Err-clause-refused : goal.returns-in-Err-clause-refused
returns-in-Err-clause-refused c =
    let text = c.args.text.now in
    let road = YieldsList-at c.into_iter-line-iterator.ensures.into_iter_gives (YieldsList-from_lines {s = c.lines-line-items.result} text c.lines-line-items.ensures.rest) in
    let turn = YieldsList-turn road c.loop-line.yielded c.loop-line.line-iterator c.loop-line.yielded_by c.next.result c.next.new.self c.in-Some.line c.in-Some.is c.next.ensures.steps in
    let so_far = YieldsList-so_far road c.loop-line.yielded c.loop-line.line-iterator c.loop-line.yielded_by in
    record {
      front = map (λ x. x.now) c.loop-line.yielded;
      text = c.in-Some.line.now;
      back = drop (length c.loop-line.yielded + 1) (lines text);
      before = c.loop-line.tenants;
      split = around (lines text) (map (λ x. x.now) c.loop-line.yielded) (length c.loop-line.yielded) c.in-Some.line.now so_far turn.0 turn.1;
      number = omega (arith, c.loop-line.invariant.counted, length-map c.loop-line.yielded (λ (x : Bor (List ℕ)). x.now));
      accepted = c.loop-line.invariant.accepted;
      fault_there = c.in-Err.ensures.fault;
    }

pub loop-line-preserved : goal.loop-line-preserved
loop-line-preserved c = record {
  counted = grind (arith, common_steps);
  bounded = grind (arith, common_steps, c.in-Some.ensures.goes);
  accepted = rw (map-append {A = Bor (List ℕ)} {B = List ℕ} (λ x. x.now) c.loop-line.yielded (c.in-Some.line ∷ []))
      (AddsAll-push empty (map (λ x. x.now) c.loop-line.yielded) c.loop-line.tenants c.in-Some.line.now c.add_line.new.self c.loop-line.invariant.accepted c.in_default.ensures.ok);
  taken = c.in_default.ensures.taken;
}

pub returns-clause-accepted : goal.returns-clause-accepted
returns-clause-accepted c =
    let road = YieldsList-at c.into_iter-line-iterator.ensures.into_iter_gives (YieldsList-from_lines {s = c.lines-line-items.result} c.args.text.now c.lines-line-items.ensures.rest) in
    let whole = YieldsList-end road c.loop-line.yielded c.loop-line.line-iterator c.loop-line.yielded_by c.next.result c.next.new.self c.in-None.is c.next.ensures.steps in
    rw (← whole.0) c.loop-line.invariant.accepted

pub returns-clause-kept : goal.returns-clause-kept
returns-clause-kept c = all_added empty (map (λ x. x.now) c.loop-line.yielded) c.loop-line.tenants empty_is c.loop-line.invariant.accepted
