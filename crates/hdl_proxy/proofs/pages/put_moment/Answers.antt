use Rattle.std.specs.Prelude.{codes}
use Rattle.std.proofs.lemmas.Result.{on_ok_weaker}
use Rattle.hdl_proxy.specs.Escape.{escaped}
use Rattle.hdl_languages.specs.declared.phrase.Phrase.TheVariants as phrases
use Rattle.hdl_proxy.specs.Pages.{element, moment_part}
use Rattle.hdl_proxy.specs.Words.{day_of}
use Rattle.hdl_proxy.specs.Phrases.{phrase_part}
use Rattle.hdl_proxy.proofs.Joined.{three, put_as}
use Rattle.hdl_proxy.proofs.pages.put_moment.Goals as goal

pub returns : goal.returns
unfolding moment_part
returns c =
    let moment = c.args.moment.now in
    on_ok_weaker c.element.result (λ put.
    three c.args.page.now.octets.items _ _ _
    (phrase_part c.args.language (codes "<p class=\"written\">") phrases.Written (codes " <time datetime=\"")) (escaped moment) (element (codes "\">") (day_of moment) (codes "</time></p>\n"))
    c.in_ok-phrase.ensures
    c.in_ok-text.ensures
    (put_as c.text.new.self.octets.items _ (codes "\">") c.day_of.result.now (day_of moment) (codes "</time></p>\n") put c.day_of.ensures))
    c.element.ensures
