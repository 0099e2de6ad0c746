use Rattle.std.proofs.Common.{◌∙◌}
use Rattle.std.specs.Prelude.{codes}
use Rattle.std.proofs.lemmas.Result.{on_ok_weaker}
use Rattle.hdl_proxy.specs.Escape.{escaped}
use Rattle.hdl_proxy.specs.Link.{path_to}
use Rattle.hdl_languages.specs.declared.phrase.Phrase.TheVariants as phrases
use Rattle.hdl_proxy.specs.Pages.{element, meant_link}
use Rattle.hdl_proxy.specs.Phrases.{phrase_part}
use Rattle.hdl_proxy.proofs.Joined.{three, put_as, said}
use Rattle.hdl_proxy.proofs.pages.put_meant_link.Goals as goal

pub returns : goal.returns
unfolding meant_link
returns c =
    let name = c.args.name.now in
    on_ok_weaker c.element.result (λ put.
    three c.args.page.now.octets.items _ _ _
    (phrase_part c.args.language (codes "<p class=\"note\">") phrases.DidYouMean (codes " <a href=\"")) (escaped (path_to name)) (element (codes "\"><bdi>") name (codes "</bdi></a>?</p>\n"))
    c.in_ok-phrase.ensures
    (said c.phrase.new.self.octets.items _ c.octets.result.now (path_to name) c.in_ok-text.ensures (c.octets.ensures.octets ∙ c.in_ok-to.ensures))
    (put_as c.text.new.self.octets.items _ (codes "\"><bdi>") c.sent.result.now name (codes "</bdi></a>?</p>\n") put c.sent.ensures.octets))
    c.element.ensures
