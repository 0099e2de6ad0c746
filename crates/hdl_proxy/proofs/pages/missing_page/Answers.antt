use Rattle.std.proofs.Common.{List, ℕ, ap, ◌++◌, ◌∙◌}
use Rattle.std.specs.Prelude.{option_copied}
use Rattle.std.specs.Global.{Vec}
use Rattle.hdl_proxy.specs.Guess.{missing_page}
use Rattle.hdl_proxy.specs.Pages.{advice_part, meant_part, name_part}
use Rattle.hdl_proxy.proofs.Joined.{three}
use Rattle.hdl_proxy.proofs.pages.missing_page.Goals as goal

pub returns-clause-body : goal.returns-clause-body
unfolding missing_page
returns-clause-body c =
    let name = name_part c.args.asked.now in
    let meant = meant_part c.args.language (option_copied c.args.meant) in
    let help = advice_part c.args.language 100 c.args.asked.now in
    ap (λ (v : Vec ℕ). v.items) c.page_answer.ensures.body
    ∙ (three c.in_ok-page.page.octets.items _ _ _ name meant help
    c.in_ok-put_name.ensures
    c.in_ok-put_meant.ensures
    c.in_ok-put_advice.ensures
    ∙ ap (λ (t : List ℕ). t ++ (name ++ (meant ++ help))) c.in_ok-page.ensures)
