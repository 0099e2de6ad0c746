use Rattle.std.proofs.Common.{◌≡◌, ◌≤◌, ℕ, List, [], length, get_or, arith, rules, Bor, codes, sym, ◌∙◌}
use Rattle.hdl_tenants.proofs.Fields.{three_texts_and}
use Rattle.hdl_tenants.proofs.lines.prefix_of.Goals as goal

pub returns : goal.returns
returns c =
    let d : Bor (List ℕ) = record { ref_ptr = (0, 0); now = [] } in
    let fields = c.args.fields.now in
    let long : 3 ≤ length fields = omega (arith, c.in-len3-up.len_at_least) in
    let word : (get_or fields 0 d).now ≡ codes "prefix" = search rules in
    record {
      more = _;
      split = three_texts_and fields d (codes "prefix") long word;
      hash = sym c.algorithm_in.ensures ∙ c.in_ok-algorithm.was;
      sound = c.is_prefix.ensures.0 (search rules);
    }
