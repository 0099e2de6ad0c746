use Rattle.std.proofs.Common.{ap, ◌∙◌}
use Rattle.std.proofs.lemmas.Result.{IfOk-weaker}
use Rattle.serde_json.specs.Written.{compact_text, has_float}
use Rattle.hdl_proxy.proofs.NoFloats.{answer_none}
use Rattle.hdl_proxy.proofs.json.values_answer.Goals as goal

pub returns-clause-body : goal.returns-clause-body
returns-clause-body c =
    let json = c.in_ok-json.ensures in
    let plain = ap has_float json.2 ∙ answer_none c.args.handle.now c.args.values.now json.0 json.1 in
    IfOk-weaker c.kept_answer.result _ _ (λ a text. (json.0, json.1, text plain ∙ ap compact_text json.2)) c.kept_answer.ensures.body
