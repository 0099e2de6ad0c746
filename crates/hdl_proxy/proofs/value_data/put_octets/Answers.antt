use Rattle.std.proofs.Common.{◌≡◌, true, sym, inr, rules}
use Rattle.std.proofs.lemmas.Bool.{cond-true}
use Rattle.std.proofs.lemmas.Result.{on_ok_weaker}
use Rattle.hdl_proxy.specs.Pages.{is_plain, plain_part, digits_part}
use Rattle.hdl_proxy.specs.Url.{IsFollowed}
use Rattle.hdl_proxy.proofs.value_data.put_octets.Goals as goal

pub returns-in-None : goal.returns-in-None
returns-in-None c =
    let octets = c.args.octets.now in
    let plain : is_plain octets ≡ true = search rules in
    let apart : ¬ (IsFollowed octets) = search rules in
    let part = sym (cond-true (is_plain octets) (plain_part octets) (digits_part c.args.language octets) plain) in
    on_ok_weaker c.element.result (λ put. (plain_part octets, inr (λ linked. apart linked.0, part), put)) c.element.ensures
