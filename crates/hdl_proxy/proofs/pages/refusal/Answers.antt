use Rattle.std.proofs.Common.{List, ℕ, ap, ◌++◌, ◌∙◌}
use Rattle.std.specs.Global.{Vec}
use Rattle.hdl_proxy.specs.Pages.{advice_part, name_part, refusal_page, top}
use Rattle.hdl_proxy.proofs.Joined.{two}
use Rattle.hdl_proxy.proofs.pages.refusal.Goals as goal

pub returns-clause-body : goal.returns-clause-body
unfolding refusal_page
returns-clause-body c =
    let asked = name_part c.args.asked.now in
    let help = advice_part c.args.language c.args.code c.args.asked.now in
    ap (λ (v : Vec ℕ). v.items) c.page_answer.ensures.body
    ∙ (two c.in_ok-page.page.octets.items c.put_name.new.page.octets.items _ asked help
    c.in_ok-put_name.ensures
    c.in_ok-put_advice.ensures
    ∙ ap (λ (t : List ℕ). t ++ (asked ++ help)) (c.in_ok-page.ensures ∙ ap top c.as_bytes.ensures.value))
