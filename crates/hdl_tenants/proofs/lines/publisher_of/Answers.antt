use Rattle.std.proofs.Common.{◌≡◌, ◌≤◌, ℕ, List, [], length, get_or, arith, rules, Bor, codes, sym, ◌∙◌}
use Rattle.hdl_tenants.proofs.Fields.{four_texts_and}
use Rattle.hdl_tenants.proofs.lines.publisher_of.Goals as goal

pub returns : goal.returns
returns c =
    let d : Bor (List ℕ) = record { ref_ptr = (0, 0); now = [] } in
    let fields = c.args.fields.now in
    let long : 4 ≤ length fields = omega (arith, c.in-len4-up.len_at_least) in
    let word : (get_or fields 0 d).now ≡ codes "publisher" = search rules in
    let lanes = c.in_ok-lanes.ensures in
    let port = c.in_ok-port.ensures in
    record {
      lanes_text = (get_or fields 2 d).now;
      port_text = (get_or fields 3 d).now;
      more = _;
      split = four_texts_and fields d (codes "publisher") long word;
      layout = sym c.wire_in.ensures ∙ c.in_ok-wire.was;
      lanes_read = record { numeral = lanes.0.0; value = lanes.1; fits = search rules };
      port_read = record { numeral = port.0.0; value = port.1; fits = search rules };
      sound = record {
        named = c.is_publisher_name.ensures.0 (search rules);
        lanes = (c.if-lanes-lt2.false, c.if-lanes-gt-LANES.false);
        port = (omega arith, search rules);
      };
    }
