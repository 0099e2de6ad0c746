use Rattle.std.proofs.Common.{◌≡◌, ℕ, List, ◌++◌, length, take, drop, true, false, sym, ap, ◌∙◌, rules}
use Rattle.std.specs.Str.{bytes_eq}
use Rattle.std.proofs.Math.Seq.{take-append_seam}
use Rattle.std.proofs.lemmas.List.{take-append-drop}
use Rattle.std.proofs.lemmas.Slice.Eq.{bytes_eq-Decides}
use Rattle.hdl_proxy.proofs.xml.after.Goals as goal

pub returns-then-eq-clause-found : goal.returns-then-eq-clause-found
returns-then-eq-clause-found c =
    let n = length c.args.front.now in
    let text = c.args.text.now in
    let cut = c.in_ok-found.ensures.cases in
    let equal : bytes_eq c.in_ok-found.found.now c.args.front.now ≡ true = search rules in
    sym (take-append-drop n text) ∙ ap (λ (x : List ℕ). x ++ drop n text) (sym cut.1) ∙ ap (λ (x : List ℕ). c.in_ok-found.found.now ++ x) (sym cut.2)
    ∙ ap (λ (x : List ℕ). x ++ c.in_ok-found.rest.now) ((bytes_eq-Decides c.in_ok-found.found.now c.args.front.now).0 equal)

pub returns-else-eq-clause-none : goal.returns-else-eq-clause-none
returns-else-eq-clause-none c rest e =
    let front = c.args.front.now in
    let found = c.in_ok-found.found.now in
    let other : bytes_eq found front ≡ false = search rules in
    let same : found ≡ front = c.in_ok-found.ensures.cases.1 ∙ ap (λ (x : List ℕ). take (length front) x) e ∙ take-append_seam front rest in
    let equal = (bytes_eq-Decides found front).1 same in
    let both = sym other ∙ equal in
    absurd cc
