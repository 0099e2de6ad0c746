use Rattle.std.proofs.Common.{◌≢◌, [], inr, subst, List, ℕ, rules}
use Rattle.std.specs.Str.{trim}
use Rattle.std.proofs.lemmas.Result.{IfOk-weaker}
use Rattle.hdl_name.specs.Fault.{IsFaultOf}
use Rattle.hdl_name.specs.Name.{IsHandle}
use Rattle.hdl_proxy.specs.declared.answer.Status.TheVariants.{BadRequest}
use Rattle.hdl_forms.specs.Open.{IsOpened, IsOpenPage, IsTypedName, words_of_name}
use Rattle.hdl_forms.proofs.open.open_page.Goals as goal

pub returns : goal.returns
returns c =
    let host = c.args.host.now in
    let typed = c.args.typed.now in
    let name : List ℕ = c.in_ok-name.name.items in
    let fault = c.in-Err.fault in
    let some : trim typed ≢ [] = search rules in
    let pasted : IsTypedName host typed name = c.in_ok-name.ensures in
    let none : ¬ (IsHandle name) = search rules in
    let read : IsFaultOf c.deref.result.now fault = search rules in
    let first : IsFaultOf name fault = subst (λ (n : List ℕ). IsFaultOf n fault) c.deref.ensures.value read in
    record {
      opened =
          IfOk-weaker c.open_answer-in-Err.result _ (IsOpened host typed)
          (λ answer h. inr (some, (name, (pasted, inr (none, (fault, (first, subst (λ why. IsOpenPage BadRequest typed why answer) c.words_of_name-why.ensures h)))))))
          c.open_answer-in-Err.ensures;
    }
