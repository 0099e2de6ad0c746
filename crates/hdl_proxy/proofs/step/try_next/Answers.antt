use Rattle.std.proofs.Common.{◌≡◌, ℕ, List, Option, None, ap, subst, ◌∙◌}
use Rattle.hdl_proxy.specs.Format.{language_of}
use Rattle.hdl_proxy.specs.Guess.{IsGuess, IsMissing}
use Rattle.hdl_proxy.specs.Step.{first_of, tried_for}
use Rattle.hdl_proxy.proofs.step.try_next.Goals as goal

pub returns-clause-tries : goal.returns-clause-tries
returns-clause-tries c =
    let question = c.args.question in
    let tried : c.deref.result.now ≡ tried_for question = c.deref.ensures.value ∙ c.in_ok-push.ensures.items in
    let again : c.deref-2.result.now ≡ tried_for question = c.deref-2.ensures.value ∙ c.in_ok-push.ensures.items in
    let last : c.deref-in-None.result.now ≡ tried_for question = c.deref-in-None.ensures.value ∙ c.in_ok-push.ensures.items in
    let none = subst (λ (o : Option (List ℕ)). IsGuess c.deref.result.now c.first_of.result.now o) c.in-None.is c.in_ok-name.ensures in
    let of_all = subst (λ (names : List (List ℕ)). IsGuess names c.first_of.result.now None) tried none in
    let guess = subst (λ (asked : List ℕ). IsGuess (tried_for question) asked None) (c.first_of.ensures ∙ ap first_of again) of_all in
    let answer = c.in_ok-missing_page-in-None.field-0 in
    let told = c.in_ok-missing_page-in-None.ensures in
    let missing : IsMissing c.language-language.result c.first_of-in-None.result.now None answer = record { told = told.told; kept = told.kept; title = told.title; body = told.body } in
    let in_language = subst (λ language. IsMissing language c.first_of-in-None.result.now None answer) c.language-language.ensures missing in
    (None, (guess, subst (λ (asked : List ℕ). IsMissing (language_of question.form) asked None answer) (c.first_of-in-None.ensures ∙ ap first_of last) in_language))
