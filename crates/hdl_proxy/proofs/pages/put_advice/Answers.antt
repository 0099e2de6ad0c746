use Rattle.std.proofs.Common.{◌∙◌, ap}
use Rattle.std.specs.Prelude.{codes}
use Rattle.std.proofs.lemmas.Result.{on_ok_weaker}
use Rattle.hdl_languages.specs.Words.{words}
use Rattle.hdl_proxy.specs.Pages.{advice_part, another_part, element}
use Rattle.hdl_proxy.specs.Status.{advice}
use Rattle.hdl_proxy.proofs.Joined.{two, put_as}
use Rattle.hdl_proxy.proofs.pages.put_advice.Goals as goal

pub returns : goal.returns
unfolding advice_part
returns c =
    let advised = words c.args.language (advice c.args.code c.args.asked.now) in
    on_ok_weaker c.put_another.result (λ put.
    two c.args.page.now.octets.items c.element.new.self.octets.items _
    (element (codes "<p>") advised (codes "</p>\n")) (another_part c.args.language)
    (put_as c.args.page.now.octets.items c.element.new.self.octets.items (codes "<p>") c.as_bytes.result.now advised (codes "</p>\n") c.in_ok-element.ensures (c.as_bytes.ensures.value ∙ c.words-advised.ensures ∙ ap (words c.args.language) c.advice.ensures))
    put)
    c.put_another.ensures
