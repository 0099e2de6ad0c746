use Rattle.std.proofs.Common.{ℕ, sym, subst}
use Rattle.std.specs.Global.{Vec}
use Rattle.serde_json.specs.Data.{Data}
use Rattle.serde_json.specs.Written.{IsInOrder}
use Rattle.hdl_proxy.specs.Json.{answer_json}
use Rattle.hdl_proxy.proofs.json.pretty_answer.Goals as goal

pub returns-clause-body : goal.returns-clause-body
returns-clause-body c =
    let json = c.in_ok-json.ensures in
    let told = subst (λ (d : Data). IsInOrder c.in_ok-body.body.items d) json.2 c.in_ok-body.ensures in
    (json.0, json.1, subst (λ (octets : Vec ℕ). IsInOrder octets.items (answer_json c.args.handle.now json.0)) (sym c.new.ensures.body) told)
