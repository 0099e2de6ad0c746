use Rattle.std.proofs.Common.{◌∙◌}
use Rattle.std.specs.Prelude.{codes}
use Rattle.std.proofs.lemmas.Result.{on_ok_weaker}
use Rattle.hdl_proxy.specs.Escape.{escaped}
use Rattle.hdl_proxy.specs.Link.{path_to_values}
use Rattle.hdl_languages.specs.declared.phrase.Phrase.TheVariants as phrases
use Rattle.hdl_proxy.specs.Pages.{known_part}
use Rattle.hdl_proxy.specs.Phrases.{phrase_part}
use Rattle.hdl_proxy.proofs.Joined.{three, said}
use Rattle.hdl_proxy.proofs.pages.put_known_link.Goals as goal

pub returns : goal.returns
unfolding known_part
returns c =
    let name = c.args.name.now in
    on_ok_weaker c.phrase.result (λ put.
    three c.args.page.now.octets.items _ _ _
    (codes "<p><small><a href=\"") (escaped (path_to_values name)) (phrase_part c.args.language (codes "\">") phrases.KnownAboutIt (codes "</a></small></p>\n"))
    c.in_ok-markup.ensures
    (said c.markup.new.self.octets.items _ c.octets.result.now (path_to_values name) c.in_ok-text.ensures (c.octets.ensures.octets ∙ c.in_ok-to.ensures))
    put)
    c.phrase.ensures
