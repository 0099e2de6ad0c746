use Rattle.std.proofs.Common.{◌++◌, ℕ, List, ap, ◌∙◌}
use Rattle.std.specs.Global.{Vec}
use Rattle.std.specs.Prelude.{codes, option_map, string_bytes}
use Rattle.hdl_proxy.specs.Site.{foot, front_part}
use Rattle.hdl_proxy.proofs.Joined.{five}
use Rattle.hdl_proxy.proofs.site.Site.page.Goals as goal

pub returns : goal.returns
returns c =
    let site = c.args.self.now in
    let title = c.args.title.now in
    let address = option_map string_bytes c.args.address.now in
    let front = front_part c.args.language title (string_bytes site.name) address in
    let rest = front ++ (c.args.main.now.items ++ (codes "</main>\n" ++ (foot c.args.language site.contact ++ codes "</body>\n</html>\n"))) in
    let named = ap (λ (name : List ℕ). c.empty-page.result.octets.items ++ front_part c.args.language title name address) c.as_bytes.ensures.value in
    ap (λ (v : Vec ℕ). v.items) c.into_octets.ensures
    ∙ five c.empty-page.result.octets.items _ _ _ _ _ front c.args.main.now.items (codes "</main>\n") (foot c.args.language site.contact) (codes "</body>\n</html>\n")
    (c.in_ok-put_front.ensures ∙ named)
    c.in_ok-part.ensures
    c.in_ok-markup.ensures
    c.in_ok-put_foot.ensures
    c.in_ok-markup-2.ensures
    ∙ ap (λ (t : List ℕ). t ++ rest) c.empty-page.ensures
