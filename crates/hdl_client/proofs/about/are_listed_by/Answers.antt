use Rattle.std.proofs.Common.{◌≡◌, ◌↔◌, ℕ, List, All, IsTrue, subst, rules}
use Rattle.hdl_name.specs.Name.{IsHandle, prefix}
use Rattle.hdl_msg.specs.Views.{strings_of}
use Rattle.hdl_client.specs.About.{IsUnder}
use Rattle.hdl_client.proofs.about.are_listed_by.Goals as goal

pub returns : goal.returns
returns c =
    let own : c.prefix.result.now ≡ prefix c.args.handle.now = search rules in
    let is : IsTrue c.in_ok-are.are ↔ All (IsUnder (prefix c.args.handle.now)) (strings_of c.args.handles) = subst (λ (p : List ℕ). IsTrue c.in_ok-are.are ↔ All (IsUnder p) (strings_of c.args.handles)) own c.in_ok-are.ensures in
    let handle : IsHandle c.args.handle.now = search rules in
    (λ t. (handle, is.0 t), λ all. is.1 all.1)
