use Rattle.std.specs.Prelude.{codes, decimal}
use Rattle.std.proofs.lemmas.Result.{on_ok_weaker}
use Rattle.hdl_proxy.specs.Escape.{escaped}
use Rattle.hdl_languages.specs.declared.phrase.Phrase.TheVariants as phrases
use Rattle.hdl_proxy.specs.Pages.{admin_part, permissions_part}
use Rattle.hdl_proxy.specs.Phrases.{phrase_part}
use Rattle.hdl_proxy.proofs.Joined.{eight, said}
use Rattle.hdl_proxy.proofs.value_data.put_admin.Goals as goal

pub returns : goal.returns
unfolding admin_part
returns c =
    let key = c.args.key.now in
    let language = c.args.language in
    on_ok_weaker c.markup-2.result (λ put.
    eight c.args.page.now.octets.items _ _ _ _ _ _ _ _
    (phrase_part language (codes "<details><summary>") phrases.WhoMayChange (codes "</summary>\n")) (phrase_part language (codes "<p>") phrases.HolderOfKey (codes " <span class=\"data\">"))
    (escaped (decimal key.index)) (codes ":<bdi>") (escaped key.name) (phrase_part language (codes "</bdi></span> ") phrases.May (codes "</p>\n")) (permissions_part language c.args.mask.0) (codes "</details>\n")
    c.in_ok-phrase.ensures
    c.in_ok-phrase-2.ensures
    c.in_ok-number.ensures
    c.in_ok-markup.ensures
    (said c.markup.new.self.octets.items _ c.sent.result.now key.name c.in_ok-text.ensures c.sent.ensures.octets)
    c.in_ok-phrase-3.ensures
    c.in_ok-put_permissions.ensures
    put)
    c.markup-2.ensures
