use Rattle.std.proofs.Common.{ap, ◌∙◌}
use Rattle.std.proofs.lemmas.Result.{IfOk-weaker}
use Rattle.serde_json.specs.Written.{compact_text, has_float}
use Rattle.hdl_proxy.proofs.NoFloats.{refusal_none}
use Rattle.hdl_proxy.proofs.json.refusal.Goals as goal

pub returns-clause-body : goal.returns-clause-body
returns-clause-body c =
    let json = c.in_ok-json.ensures in
    let plain = ap has_float json ∙ refusal_none c.args.asked.now c.args.code c.args.why.now in
    IfOk-weaker c.json_answer.result _ _ (λ a text. text plain ∙ ap compact_text json) c.json_answer.ensures.body
