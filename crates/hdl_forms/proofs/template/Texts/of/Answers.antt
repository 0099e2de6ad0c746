use Rattle.std.proofs.Common.{[], ℕ, List, ◌∙◌, arith}
use Rattle.std.specs.Borrow.{Bor}
use Rattle.std.proofs.lemmas.Grind.{common_steps}
use Rattle.hdl_proxy.proofs.Texts.{now_more, now_all}
use Rattle.hdl_forms.proofs.template.Texts.of.Goals as goal

pub loop-text-preserved : goal.loop-text-preserved
loop-text-preserved c =
    let d : Bor (List ℕ) = record { ref_ptr = (0, 0); now = [] } in
    let more = now_more c.args.texts.now c.loop-text.text-index d c.loop-text-test.true in
    grind (arith, common_steps)

pub returns : goal.returns
returns c = c.loop-text.invariant ∙ now_all c.args.texts.now c.loop-text.text-index c.loop-text-test.false
