use Rattle.std.proofs.Common.{ℕ, List, sym, subst}
use Rattle.std.specs.Prelude.{IfOk}
use Rattle.hdl_proxy.specs.Answer.{Goes, IsPage, LeadsBy}
use Rattle.hdl_proxy.specs.CacheControl.{IsCacheControlOf}
use Rattle.hdl_proxy.proofs.Made.{made, made_so}
use Rattle.hdl_proxy.proofs.proxy.go.Goals as goal

pub returns-in-Some : goal.returns-in-Some
returns-in-Some c =
    let handle = c.args.name.now in
    let values = c.args.values.now in
    let to = c.in-Some.link in
    let leads : IfOk c.redirect.result (LeadsBy c.sent.result.now values to) =
    made c.redirect.result _ _ _ (λ a leads kept. record { leads = leads; kept = subst (IsCacheControlOf values) (sym kept) c.cache_control_of.ensures }) c.redirect.ensures.leads c.redirect.ensures.kept in
    let named = subst (λ (h : List ℕ). IfOk c.redirect.result (LeadsBy h values to)) c.sent.ensures.octets leads in
    subst (λ way. IfOk c.redirect.result (Goes c.args.language handle values way c.args.way.wrong)) (sym c.in-Some.is) named

pub returns-in-None : goal.returns-in-None
returns-in-None c =
    let handle = c.args.name.now in
    let values = c.args.values.now in
    let said = c.values_page.ensures in
    let page : IfOk c.values_page.result (IsPage c.args.language handle c.args.way.wrong values) = made_so c.values_page.result _ _ _ _ _ _ (λ a told kept about title body. record { told = told; kept = kept; about = about; title = title; body = body }) said.told said.kept said.about said.title said.body in
    subst (λ way. IfOk c.values_page.result (Goes c.args.language handle values way c.args.way.wrong)) (sym c.in-None.is) page
