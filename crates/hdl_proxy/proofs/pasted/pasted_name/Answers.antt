use Rattle.std.proofs.Common.{◌≡◌, ℕ, List, ap, subst, ◌∙◌, rules}
use Rattle.std.specs.Prelude.{option_copied}
use Rattle.hdl_proxy.specs.Pasted.{IsPasted, IsPastedName, between_spaces}
use Rattle.hdl_proxy.proofs.pasted.pasted_name.Goals as goal

pub returns : goal.returns
returns c =
    let own = option_copied c.args.own in
    let sent : List ℕ = between_spaces c.args.sent.now in
    let part : List ℕ = c.in_ok-part.part.items in
    let same : c.between_spaces.result.now ≡ sent = c.between_spaces.ensures ∙ ap between_spaces c.as_bytes.ensures.value in
    let named : IsPasted own sent part = subst (λ (text : List ℕ). IsPasted own text part) same c.in_ok-part.ensures in
    let meant : c.between_spaces-2.result.now ≡ between_spaces part = c.between_spaces-2.ensures ∙ ap between_spaces c.deref.ensures.value in
    search rules
