use Rattle.std.proofs.Common.{◌≡◌, Some, IfOk, rules, subst}
use Rattle.hdl_value.specs.Refs.{raws, list_read}
use Rattle.hdl_reach.specs.Seen.{places}
use Rattle.hdl_reach.proofs.Listings.{as_read}
use Rattle.hdl_export.proofs.references.listed_of.Goals as goal

pub returns-in-Some : goal.returns-in-Some
returns-in-Some c =
    let read : Some (raws c.in-Some.all.items) ≡ list_read c.args.value.now = search rules in
    subst (λ ps. IfOk c.referring.result (λ all. places all.items ≡ ps)) (as_read c.in-Some.all.items c.args.value.now read) c.referring.ensures
