use Rattle.std.proofs.Common.{◌≡◌, ℕ, ◌*◌, pos, string_bytes, ap, subst, ◌∙◌, arith, rules}
use Rattle.std.proofs.lemmas.Int.{ints}
use Rattle.hdl_proxy.specs.Words.{IsMomentText, ttl_kind, ttl_seconds}
use Rattle.hdl_proxy.proofs.words.cache_lifetime.Goals as goal

pub returns : goal.returns
returns c =
    let kind : ttl_kind c.args.value.now ≡ 1 = search rules in
    let number : c.from_be_bytes-seconds.result ≡ ttl_seconds c.args.value.now = search rules in
    let moment : c.in-Ok.moment.nanosecond ≡ pos (c.from_be_bytes-seconds.result * 1_000_000_000) = omega (arith, ints, c.in-Ok.ensures.value, c.from.ensures) in
    let same = moment ∙ ap (λ (n : ℕ). pos (n * 1_000_000_000)) number in
    let words = string_bytes c.in_ok-moment_words.field-0 in
    (kind, subst (λ moment. IsMomentText moment words) same c.in_ok-moment_words.ensures)
