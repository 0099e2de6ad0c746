use Rattle.std.proofs.Common.{◌≡◌, ◌==◌, ◌++◌, ℕ, List, [], Option, Some, String, option_map, string_bytes, sym, ap, ◌∙◌}
use Rattle.std.specs.Global.{Global}
use Rattle.std.proofs.lemmas.Bool.{cond-false, eqb-true, false_from_ne_true}
use Rattle.std.proofs.lemmas.Result.{on_ok_weaker}
use Rattle.hdl_proxy.specs.Pages.{moment_part, written_part}
use Rattle.hdl_proxy.proofs.pages.put_written_at.Goals as goal

pub returns : goal.returns
returns c =
    let before = c.args.page.now.octets.items in
    let timestamp = c.args.timestamp in
    let text : List ℕ = string_bytes c.in-Some.moment in
    let shown : written_part c.args.language timestamp (Some text) ≡ moment_part c.args.language text = cond-false (timestamp == 0) [] (moment_part c.args.language text) (false_from_ne_true (timestamp == 0) (λ t. c.if-timestamp-eq0.false (eqb-true timestamp 0 t))) in
    let same : written_part c.args.language timestamp (option_map string_bytes c.args.written) ≡ written_part c.args.language timestamp (Some text) = ap (λ (o : Option (String Global)). written_part c.args.language timestamp (option_map string_bytes o)) c.in-Some.is in
    on_ok_weaker c.put_moment.result (λ put.
    put ∙ ap (λ (t : List ℕ). before ++ moment_part c.args.language t) c.as_bytes.ensures.value ∙ ap (λ (t : List ℕ). before ++ t) (sym (same ∙ shown)))
    c.put_moment.ensures
