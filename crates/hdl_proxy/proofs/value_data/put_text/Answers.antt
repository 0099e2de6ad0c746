use Rattle.std.proofs.Common.{List, ℕ, inr, subst, rules}
use Rattle.std.proofs.lemmas.Result.{on_ok_weaker}
use Rattle.hdl_proxy.specs.Pages.{IsOctetsPart, NamesHandle}
use Rattle.hdl_proxy.proofs.value_data.put_text.Goals as goal

pub returns-in-None : goal.returns-in-None
returns-in-None c =
    let other : ¬ (NamesHandle c.args.value.now) = search rules in
    on_ok_weaker c.put_octets.result
    (λ put. (put.0, inr (other, subst (λ (octets : List ℕ). IsOctetsPart c.args.language octets put.0) c.as_slice.ensures put.1), put.2))
    c.put_octets.ensures
