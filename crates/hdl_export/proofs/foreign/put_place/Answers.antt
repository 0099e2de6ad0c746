use Rattle.std.proofs.Common.{◌≡◌, List, ℕ, map, true, false, Some, sym, ap, ◌∙◌}
use Rattle.hdl_name.specs.Name.{prefix}
use Rattle.hdl_value.specs.Refs.{place_of}
use Rattle.hdl_rows.specs.Table.{at}
use Rattle.hdl_export.specs.Rows.{is_among}
use Rattle.hdl_export.proofs.ForeignRows.{puts_none, none_writable, puts_one, one_writable, on_ok}
use Rattle.hdl_export.proofs.foreign.put_place.Goals as goal

pub returns-then-is_among-clause-put : goal.returns-then-is_among-clause-put
returns-then-is_among-clause-put g c =
    let prefixes = map (λ p. p.now) c.args.prefixes.now in
    let p = place_of c.args.here.now in
    let named = c.in_ok-name.ensures ∙ c.canon.ensures in
    let own : is_among (prefix p.handle) prefixes ≡ true = sym (c.is_among.ensures ∙ ap (λ (q : List ℕ). is_among q prefixes) (c.prefix.ensures ∙ ap prefix named)) ∙ c.if-is_among.true in
    puts_none prefixes (g.R.Rows.content c.args.rows.now) p c.args.out.now.items own

pub returns-then-is_among-clause-writable : goal.returns-then-is_among-clause-writable
returns-then-is_among-clause-writable g c =
    let prefixes = map (λ p. p.now) c.args.prefixes.now in
    let p = place_of c.args.here.now in
    let named = c.in_ok-name.ensures ∙ c.canon.ensures in
    let own : is_among (prefix p.handle) prefixes ≡ true = sym (c.is_among.ensures ∙ ap (λ (q : List ℕ). is_among q prefixes) (c.prefix.ensures ∙ ap prefix named)) ∙ c.if-is_among.true in
    none_writable prefixes (g.R.Rows.content c.args.rows.now) p own

pub returns-in-Some-clause-put : goal.returns-in-Some-clause-put
returns-in-Some-clause-put g c =
    let prefixes = map (λ p. p.now) c.args.prefixes.now in
    let t = g.R.Rows.content c.args.rows.now in
    let p = place_of c.args.here.now in
    let named = c.in_ok-name.ensures ∙ c.canon.ensures in
    let foreign : is_among (prefix p.handle) prefixes ≡ false = sym (c.is_among.ensures ∙ ap (λ (q : List ℕ). is_among q prefixes) (c.prefix.ensures ∙ ap prefix named)) ∙ c.if-is_among.false in
    let there : at t p ≡ Some c.in-Some.value = sym c.in_ok-value.ensures.found ∙ c.in-Some.is in
    on_ok c.put_value.result _ _ (puts_one prefixes t p c.in-Some.value c.sent.result.now c.args.out.now.items c.put_value.new.out.items (c.sent.ensures.octets ∙ named) foreign there) c.put_value.ensures.put

pub returns-in-Some-clause-writable : goal.returns-in-Some-clause-writable
returns-in-Some-clause-writable g c =
    let prefixes = map (λ p. p.now) c.args.prefixes.now in
    let t = g.R.Rows.content c.args.rows.now in
    let p = place_of c.args.here.now in
    let named = c.in_ok-name.ensures ∙ c.canon.ensures in
    let foreign : is_among (prefix p.handle) prefixes ≡ false = sym (c.is_among.ensures ∙ ap (λ (q : List ℕ). is_among q prefixes) (c.prefix.ensures ∙ ap prefix named)) ∙ c.if-is_among.false in
    let there : at t p ≡ Some c.in-Some.value = sym c.in_ok-value.ensures.found ∙ c.in-Some.is in
    on_ok c.put_value.result _ _ (one_writable prefixes t p c.in-Some.value c.sent.result.now (c.sent.ensures.octets ∙ named) foreign there) c.put_value.ensures.writable
