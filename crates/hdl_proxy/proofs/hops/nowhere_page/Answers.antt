use Rattle.std.proofs.Common.{List, ℕ, ap, ◌++◌, ◌∙◌}
use Rattle.std.specs.Prelude.{codes}
use Rattle.std.specs.Global.{Vec}
use Rattle.hdl_languages.specs.Words.{words}
use Rattle.hdl_proxy.specs.Hops.{hops_part, nowhere_page}
use Rattle.hdl_proxy.specs.Pages.{advice_part, element, name_part}
use Rattle.hdl_proxy.proofs.Joined.{four, put_as}
use Rattle.hdl_proxy.proofs.hops.nowhere_page.Goals as goal

pub returns-clause-body : goal.returns-clause-body
unfolding nowhere_page
returns-clause-body c =
    let name = name_part c.args.handle.now in
    let said = element (codes "<p>") (words c.args.language c.args.front) (codes "</p>\n") in
    let hops = hops_part c.args.names.now c.args.target.now in
    let help = advice_part c.args.language 6 c.args.handle.now in
    ap (λ (v : Vec ℕ). v.items) c.page_answer.ensures.body
    ∙ (four c.in_ok-page.page.octets.items _ _ _ _ name said hops help
    c.in_ok-put_name.ensures
    (put_as c.put_name.new.page.octets.items c.element.new.self.octets.items (codes "<p>") c.as_bytes.result.now (words c.args.language c.args.front) (codes "</p>\n") c.in_ok-element.ensures (c.as_bytes.ensures.value ∙ c.words.ensures))
    c.in_ok-put_hops.ensures
    c.in_ok-put_advice.ensures
    ∙ ap (λ (t : List ℕ). t ++ (name ++ (said ++ (hops ++ help)))) c.in_ok-page.ensures)
