use Rattle.std.specs.Prelude.{codes, option_map, string_bytes}
use Rattle.std.proofs.lemmas.Result.{on_ok_weaker}
use Rattle.hdl_proxy.specs.Escape.{escaped}
use Rattle.hdl_languages.specs.declared.phrase.Phrase.TheVariants as phrases
use Rattle.hdl_proxy.specs.Pages.{element}
use Rattle.hdl_proxy.specs.Site.{about_part, front_part}
use Rattle.hdl_proxy.specs.declared.site.TheConstants.{HEAD, MAIN, STYLE}
use Rattle.hdl_proxy.specs.Phrases.{phrase_part}
use Rattle.hdl_proxy.proofs.Joined.{seven}
use Rattle.hdl_proxy.proofs.site.put_front.Goals as goal

pub returns : goal.returns
unfolding front_part
returns c =
    let title = c.args.title.now in
    let name = c.args.name.now in
    on_ok_weaker c.markup-2.result (λ put.
    seven c.args.page.now.octets.items _ _ _ _ _ _ _
    (phrase_part c.args.language (codes "<!DOCTYPE html>\n<html lang=\"") phrases.LanguageTag HEAD.now) (escaped title) (element (codes " - ") name (codes "</title>\n")) (about_part title name (option_map string_bytes c.args.address.now)) STYLE.now (escaped name) MAIN.now
    c.in_ok-phrase.ensures
    c.in_ok-text.ensures
    c.in_ok-element.ensures
    c.in_ok-put_about.ensures
    c.in_ok-markup.ensures
    c.in_ok-text-2.ensures
    put)
    c.markup-2.ensures
