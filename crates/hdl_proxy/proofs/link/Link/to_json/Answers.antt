use Rattle.std.proofs.Common.{◌≡◌, inr, string_bytes, rules}
use Rattle.hdl_proxy.specs.Link.{path_to_json}
use Rattle.hdl_proxy.proofs.link.Link.to_json.Goals as goal

pub invariant_of-result : goal.invariant_of-result
invariant_of-result c =
    let spelt : string_bytes c.push_str.new.self ≡ path_to_json c.args.name.now = search rules in
    inr (inr (inr (inr (c.args.name.now, (c.sent.ensures.handle, spelt)))))
