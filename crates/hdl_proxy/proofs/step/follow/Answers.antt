use Rattle.std.proofs.Common.{◌≡◌, ◌≤◌, ℕ, List, length, true, false, inl, inr, sym, subst, ◌∙◌, rules}
use Rattle.hdl_proxy.specs.Alias.{is_among}
use Rattle.hdl_proxy.specs.Step.{LeadsNowhere, asked_for}
use Rattle.hdl_languages.specs.declared.phrase.Phrase.TheVariants as phrases
use Rattle.hdl_proxy.proofs.step.follow.Goals as goal

pub returns-then-is_among : goal.returns-then-is_among
returns-then-is_among c =
    let question = c.args.question in
    let target = c.args.hop.target in
    let tried : c.deref.result.now ≡ asked_for question = c.deref.ensures.value ∙ c.in_ok-push.ensures.items in
    let told : c.deref-then-is_among.result.now ≡ asked_for question = c.deref-then-is_among.ensures.value ∙ c.in_ok-push.ensures.items in
    inl (
      subst (λ (names : List (List ℕ)). is_among names target ≡ true) tried (sym c.is_among.ensures ∙ c.if-is_among.true),
      subst (λ (names : List (List ℕ)). LeadsNowhere question.form phrases.InACircle names target c.in_ok-answer.answer) told c.in_ok-answer.ensures,
    )

pub returns-then-hops-ge-HOPS_MOST : goal.returns-then-hops-ge-HOPS_MOST
returns-then-hops-ge-HOPS_MOST c =
    let question = c.args.question in
    let target = c.args.hop.target in
    let tried : c.deref.result.now ≡ asked_for question = c.deref.ensures.value ∙ c.in_ok-push.ensures.items in
    let told : c.deref-then-hops-ge-HOPS_MOST.result.now ≡ asked_for question = c.deref-then-hops-ge-HOPS_MOST.ensures.value ∙ c.in_ok-push.ensures.items in
    let many : 10 ≤ length question.passed.items = search rules in
    inr (
      subst (λ (names : List (List ℕ)). is_among names target ≡ false) tried (sym c.is_among.ensures ∙ c.if-is_among.false),
      many,
      subst (λ (names : List (List ℕ)). LeadsNowhere question.form phrases.BeyondTen names target c.in_ok-answer-2.answer) told c.in_ok-answer-2.ensures,
    )
