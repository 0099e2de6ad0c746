use Rattle.std.specs.Prelude.{codes}
use Rattle.std.proofs.lemmas.Result.{on_ok_weaker}
use Rattle.hdl_languages.specs.declared.phrase.Phrase.TheVariants as phrases
use Rattle.hdl_proxy.specs.Hops.{alias_part}
use Rattle.hdl_proxy.specs.Pages.{handle_link}
use Rattle.hdl_proxy.specs.Phrases.{phrase_part}
use Rattle.hdl_proxy.proofs.Joined.{three}
use Rattle.hdl_proxy.proofs.hops.put_alias.Goals as goal

pub returns : goal.returns
unfolding alias_part
returns c =
    on_ok_weaker c.phrase.result (λ put.
    three c.args.page.now.octets.items _ _ _
    (codes "<p class=\"note\">") (handle_link c.args.asked.now) (phrase_part c.args.language (codes " ") phrases.IsAlias (codes "</p>\n"))
    c.in_ok-markup.ensures
    c.in_ok-handle.ensures
    put)
    c.phrase.ensures
