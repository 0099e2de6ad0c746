use Rattle.std.proofs.Common.{◌≡◌, ℕ, List, [], ◌++◌, ap, ◌∙◌, refl, arith}
use Rattle.std.specs.List.{concat}
use Rattle.std.proofs.lemmas.List.{append-nil}
use Rattle.std.proofs.lemmas.Grind.{common_steps}
use Rattle.hdl_proxy.specs.Xml.{StandsFor}
use Rattle.hdl_proxy.proofs.Pieces.{one_more}
use Rattle.hdl_proxy.proofs.xml.read_text.Goals as goal

pub loop-init : goal.loop-init
loop-init c = rw c.new-text.ensures.items ([], tt, refl)

pub loop-preserved : goal.loop-preserved
loop-preserved c =
    let read = c.in-Some.ensures in
    rw c.in_ok-push.ensures.items
    (one_more StandsFor c.args.written.now c.loop.text.items c.loop.rest.now read.0 c.in-Some.byte c.in-Some.behind.now c.loop.invariant read.1.0 read.1.1)

pub returns-then-is_empty : goal.returns-then-is_empty
returns-then-is_empty c =
    let done = c.loop.invariant in
    let nothing : c.loop.rest.now ≡ [] = grind (arith, common_steps) in
    (done.0, (done.1, done.2 ∙ ap (λ (y : List ℕ). concat done.0 ++ y) nothing ∙ append-nil (concat done.0)))
