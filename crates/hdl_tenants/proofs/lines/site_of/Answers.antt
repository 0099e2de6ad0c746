use Rattle.std.proofs.Common.{◌≡◌, ℕ, List, [], length, get_or, arith, rules, Bor, codes}
use Rattle.hdl_tenants.proofs.Fields.{three_texts}
use Rattle.hdl_tenants.proofs.lines.site_of.Goals as goal

pub returns : goal.returns
returns c =
    let d : Bor (List ℕ) = record { ref_ptr = (0, 0); now = [] } in
    let fields = c.args.fields.now in
    let three_long : length fields ≡ 3 = omega (arith, c.in-len3.len_at_least, c.in-len3.len_below) in
    let word : (get_or fields 0 d).now ≡ codes "site" = search rules in
    three_texts fields d (codes "site") three_long word
