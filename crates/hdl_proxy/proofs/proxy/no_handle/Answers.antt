use Rattle.std.proofs.Common.{◌≡◌, ◌≢◌, ℕ, List, false, inr, bytes_eq, subst, sym, true≢false}
use Rattle.std.proofs.lemmas.Result.{IfOk-weaker}
use Rattle.hdl_proxy.specs.declared.answer.Answer.{Answer}
use Rattle.hdl_proxy.specs.Begin.{IsNoHandle, list_path}
use Rattle.hdl_proxy.proofs.proxy.no_handle.Goals as goal

pub returns-clause-none : goal.returns-clause-none
returns-clause-none c =
    let other : c.args.path.now ≢ list_path = λ same. true≢false (sym (subst (λ (path : List ℕ). false ≡ bytes_eq path list_path) same c.if-eq.ensures)) in
    IfOk-weaker c.refuse_path-2.result _ (IsNoHandle c.args.path.now) (λ (answer : Answer) refused. inr (other, refused)) c.refuse_path-2.ensures.refuses
