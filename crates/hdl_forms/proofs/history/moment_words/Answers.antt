use Rattle.std.proofs.Common.{◌≡◌, string_bytes, subst, arith, inl}
use Rattle.std.proofs.lemmas.Int.{ints}
use Rattle.std.proofs.lemmas.Result.{IfOk-weaker}
use Rattle.hdl_proxy.specs.Words.{IsMomentText}
use Rattle.hdl_forms.specs.History.{nanoseconds}
use Rattle.hdl_forms.proofs.history.moment_words.Goals as goal

pub returns-in-Ok : goal.returns-in-Ok
returns-in-Ok c =
    let same : c.in-Ok.moment.nanosecond ≡ nanoseconds c.args.moment = omega (arith, ints, c.in-Ok.ensures.value, c.from-nanoseconds.ensures) in
    IfOk-weaker c.timestamp_words.result _ _ (λ words said. inl (subst (λ moment. IsMomentText moment (string_bytes words)) same said)) c.timestamp_words.ensures
