use Rattle.std.proofs.Common.{ℕ, List, sym, subst}
use Rattle.std.specs.Prelude.{IfOk}
use Rattle.hdl_proxy.specs.Answer.{IsPage, IsJson, IsPretty, ShowsValues}
use Rattle.hdl_proxy.specs.CacheControl.{IsCacheControlOf}
use Rattle.hdl_proxy.specs.declared.note.Note.TheVariants.{Nothing}
use Rattle.hdl_proxy.proofs.Made.{made_of, made_so}
use Rattle.hdl_proxy.proofs.proxy.answer_values.Goals as goal

pub returns-in-Page : goal.returns-in-Page
returns-in-Page c =
    let handle = c.args.name.now in
    let values = c.args.values.now in
    let said = c.values_page.ensures in
    let page : IfOk c.values_page.result (IsPage c.in-Page.language handle Nothing values) = made_so c.values_page.result _ _ _ _ _ _ (λ a told kept about title body. record { told = told; kept = kept; about = about; title = title; body = body }) said.told said.kept said.about said.title said.body in
    subst (λ form. IfOk c.values_page.result (ShowsValues form handle c.args.wish.now.append.now c.args.wish.now.locatt.now values)) (sym c.in-Page.is) page

pub returns-in-Json : goal.returns-in-Json
returns-in-Json c =
    let handle = c.args.name.now in
    let values = c.args.values.now in
    let said = c.values_answer.ensures in
    let json : IfOk c.values_answer.result (IsJson c.sent.result.now values) =
    made_of c.values_answer.result _ _ _ _ (λ a told kept body. record { told = told; kept = subst (IsCacheControlOf values) (sym kept) c.cache_control_of.ensures; body = body }) said.told said.kept said.body in
    let named = subst (λ (h : List ℕ). IfOk c.values_answer.result (IsJson h values)) c.sent.ensures.octets json in
    subst (λ form. IfOk c.values_answer.result (ShowsValues form handle c.args.wish.now.append.now c.args.wish.now.locatt.now values)) (sym c.in-Json.is) named

pub returns-in-Pretty : goal.returns-in-Pretty
returns-in-Pretty c =
    let handle = c.args.name.now in
    let values = c.args.values.now in
    let said = c.pretty_answer.ensures in
    let pretty : IfOk c.pretty_answer.result (IsPretty c.sent-in-Pretty.result.now values) =
    made_of c.pretty_answer.result _ _ _ _ (λ a told kept body. record { told = told; kept = subst (IsCacheControlOf values) (sym kept) c.cache_control_of-in-Pretty.ensures; body = body }) said.told said.kept said.body in
    let named = subst (λ (h : List ℕ). IfOk c.pretty_answer.result (IsPretty h values)) c.sent-in-Pretty.ensures.octets pretty in
    subst (λ form. IfOk c.pretty_answer.result (ShowsValues form handle c.args.wish.now.append.now c.args.wish.now.locatt.now values)) (sym c.in-Pretty.is) named
