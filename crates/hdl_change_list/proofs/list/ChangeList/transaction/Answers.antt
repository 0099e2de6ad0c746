use Rattle.std.proofs.Common.{refl, sym, subst, ◌∙◌, List}
use Rattle.std.specs.List.{AllZip}
use Rattle.std.proofs.lemmas.Result.{IfOk-weaker}
use Rattle.hdl_change_list.specs.declared.keyed.KeyWrite.{KeyWrite}
use Rattle.hdl_etcd.specs.declared.asking.Operation.{Operation}
use Rattle.hdl_change_list.specs.Sequence.{Makes}
use Rattle.hdl_change_list.proofs.list.ChangeList.transaction.Goals as goal

pub returns : goal.returns
returns g c =
    let fence = c.fence_of.ensures c.args.self.now.name.items (c.deref.ensures.value ∙ c.in_ok-head.ensures) (c.deref-2.ensures.value ∙ c.in_ok-chain.ensures) in
    let made = subst (λ (os : List Operation). AllZip Makes c.args.writes.now os) (sym c.deref-3.ensures.value) c.in_ok-operations.ensures in
    IfOk-weaker c.transaction_text.result _ _ (λ text back. (_, record { fence = fence; operations = made; reads = refl }, back)) c.transaction_text.ensures.reads
