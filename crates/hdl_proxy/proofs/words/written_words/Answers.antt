use Rattle.std.proofs.Common.{◌≡◌, string_bytes, subst, arith}
use Rattle.std.proofs.lemmas.Int.{ints}
use Rattle.hdl_proxy.specs.Words.{IsMomentText, written_at}
use Rattle.hdl_proxy.proofs.words.written_words.Goals as goal

pub returns-in_ok-moment_words-in-Ok : goal.returns-in_ok-moment_words-in-Ok
returns-in_ok-moment_words-in-Ok c =
    let same : c.in-Ok.moment.nanosecond ≡ written_at c.args.value.now = omega (arith, ints, c.in-Ok.ensures.value, c.from-nanoseconds.ensures) in
    let words = string_bytes c.in_ok-moment_words-in-Ok.field-0 in
    subst (λ moment. IsMomentText moment words) same c.in_ok-moment_words-in-Ok.ensures
