use Rattle.std.proofs.Common.{ℕ, List, ◌++◌, inl, inr, ap, ◌∙◌}
use Rattle.std.specs.Prelude.{codes}
use Rattle.hdl_proxy.specs.Link.{path_to}
use Rattle.hdl_proxy.proofs.link.Link.to_form.Goals as goal

pub invariant_of-result : goal.invariant_of-result
invariant_of-result c =
    let spelt = c.in_ok-text.ensures.spelt ∙ ap path_to c.sent.ensures.octets in
    inr (inr (inr (inl (c.args.name.now, (c.sent.ensures.handle, c.in_ok-push_str.ensures.bytes ∙ ap (λ (t : List ℕ). t ++ codes "?edit") spelt)))))

pub returns : goal.returns
returns c =
    let spelt = c.in_ok-text.ensures.spelt ∙ ap path_to c.sent.ensures.octets in
    c.in_ok-push_str.ensures.bytes ∙ ap (λ (t : List ℕ). t ++ codes "?edit") spelt
