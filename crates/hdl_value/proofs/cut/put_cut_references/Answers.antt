use Rattle.std.proofs.Common.{ap, ◌∙◌, ◌++◌, List, ℕ, append_assoc}
use Rattle.std.specs.Int.{w32, to_be_bytes}
use Rattle.hdl_value.proofs.HandleNet.{refs_octets}
use Rattle.hdl_value.proofs.cut.put_cut_references.Goals as goal

pub returns : goal.returns
returns c =
    let refs = c.args.refs.now in
    let start = c.args.out.now.items in
    c.in_ok-extend_from_slice.ensures.items
    ∙ ap (λ (x : List ℕ). x ++ refs.octets.now) c.in_ok-put_u32.ensures
    ∙ append_assoc start (to_be_bytes w32 refs.count) refs.octets.now
    ∙ ap (λ (x : List ℕ). start ++ x) (refs_octets refs c.octets_fit.ensures.fit c.requires)
