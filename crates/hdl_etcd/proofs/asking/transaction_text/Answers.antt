use Rattle.std.proofs.Common.{◌≤◌, Some, sym, subst, ap, ◌∙◌}
use Rattle.std.proofs.lemmas.Result.{IfOk-weaker}
use Rattle.serde_json.specs.Data.{Data, depth}
use Rattle.serde_json.specs.Read.{max_depth}
use Rattle.hdl_etcd.proofs.Depths.{transaction_within}
use Rattle.hdl_etcd.proofs.asking.transaction_text.Goals as goal

pub returns : goal.returns
returns c =
    let same = c.in_ok-json.ensures in
    let within = subst (λ (d : Data). depth d ≤ max_depth) (sym same) (transaction_within c.args.transaction.now) in
    record { reads = IfOk-weaker c.to_string.result _ _ (λ text back. back within ∙ ap (λ (d : Data). Some d) same) c.to_string.ensures.reads_back }
