use Rattle.std.specs.Prelude.{codes, string_bytes}
use Rattle.std.proofs.lemmas.Result.{on_ok_weaker}
use Rattle.hdl_proxy.specs.Escape.{escaped}
use Rattle.hdl_languages.specs.declared.phrase.Phrase.TheVariants as phrases
use Rattle.hdl_proxy.specs.Pages.{element}
use Rattle.hdl_proxy.specs.Site.{contact_part}
use Rattle.hdl_proxy.specs.Phrases.{phrase_part}
use Rattle.hdl_proxy.proofs.Joined.{three, put_as, said}
use Rattle.hdl_proxy.proofs.site.put_contact.Goals as goal

pub returns : goal.returns
unfolding contact_part
returns c =
    let contact = c.args.contact.now in
    on_ok_weaker c.element.result (λ put.
    three c.args.page.now.octets.items _ _ _
    (phrase_part c.args.language (codes "<footer>") phrases.Questions (codes " <a href=\"")) (escaped contact.to) (element (codes "\"><bdi>") (string_bytes contact.text) (codes "</bdi></a></footer>\n"))
    c.in_ok-phrase.ensures
    (said c.phrase.new.self.octets.items _ c.octets.result.now contact.to c.in_ok-text.ensures c.octets.ensures.octets)
    (put_as c.text.new.self.octets.items _ (codes "\"><bdi>") c.as_bytes.result.now (string_bytes contact.text) (codes "</bdi></a></footer>\n") put c.as_bytes.ensures.value))
    c.element.ensures
