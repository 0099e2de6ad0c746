use Rattle.std.proofs.Common.{◌≡◌, length, ◌∙◌, rules}
use Rattle.std.specs.Prelude.{codes, decimal}
use Rattle.std.proofs.lemmas.Result.{on_ok_weaker}
use Rattle.hex.specs.Hex.{encode_lower}
use Rattle.hdl_proxy.specs.Escape.{escaped}
use Rattle.hdl_languages.specs.declared.phrase.Phrase.TheVariants as phrases
use Rattle.hdl_proxy.specs.Pages.{digits_part, element}
use Rattle.hdl_proxy.specs.Phrases.{phrase_part}
use Rattle.hdl_proxy.proofs.Joined.{four, put_as, said}
use Rattle.hdl_proxy.proofs.value_data.put_digits.Goals as goal

pub returns : goal.returns
unfolding digits_part
returns c =
    let octets = c.args.octets.now in
    let count : c.as_bytes.result.now ≡ decimal (length octets) = search rules in
    let digits : c.as_bytes-2.result.now ≡ encode_lower octets = c.as_bytes-2.ensures.value ∙ c.in_ok-digits.ensures in
    on_ok_weaker c.element.result (λ put.
    four c.args.page.now.octets.items _ _ _ _
    (phrase_part c.args.language (codes "<p>") phrases.NotText (codes " ")) (escaped (decimal (length octets))) (codes "</p>\n") (element (codes "<p class=\"data\">") (encode_lower octets) (codes "</p>\n"))
    c.in_ok-phrase.ensures
    (said c.phrase.new.self.octets.items _ c.as_bytes.result.now (decimal (length octets)) c.in_ok-text.ensures count)
    c.in_ok-markup.ensures
    (put_as c.markup.new.self.octets.items _ (codes "<p class=\"data\">") c.as_bytes-2.result.now (encode_lower octets) (codes "</p>\n") put digits))
    c.element.ensures
