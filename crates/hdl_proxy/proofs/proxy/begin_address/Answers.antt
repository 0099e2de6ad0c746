use Rattle.std.proofs.Common.{◌≡◌, ℕ, List, inl, inr, ap, subst, ◌∙◌}
use Rattle.std.proofs.lemmas.Result.{IfOk-weaker}
use Rattle.hdl_proxy.specs.Begin.{AsksAddress, AsksFor, IsExact, IsMeant, json_form, json_path, page_form}
use Rattle.hdl_proxy.specs.Pasted.{IsWritten, between_spaces}
use Rattle.hdl_proxy.specs.Query.{pairs_of, texts_of}
use Rattle.hdl_proxy.specs.declared.proxy.Next.{Next}
use Rattle.hdl_proxy.specs.declared.question.AnswerFormat.{AnswerFormat}
use Rattle.hdl_proxy.proofs.Paths.{behind_front, no_handle}
use Rattle.hdl_proxy.proofs.proxy.begin_address.Goals as goal

pub returns-in-Some-clause-none : goal.returns-in-Some-clause-none
returns-in-Some-clause-none c = λ other. absurd (other (inl (c.in-Some.text.now, behind_front json_path c.args.path.now c.in-Some.text.now c.in-Some.ensures.cases)))

pub returns-in-Some-clause-asks : goal.returns-in-Some-clause-asks
returns-in-Some-clause-asks c = λ of_handle.
    let path = c.args.path.now in
    let pairs : List (List ℕ × List ℕ) = pairs_of c.args.query.now in
    let form : AnswerFormat = c.json_form.result in
    let text : List ℕ = c.in-Some.text.now in
    let name : List ℕ = c.deref.result.now in
    let first : texts_of c.deref-in-Some.result.now ≡ pairs = ap texts_of c.deref-in-Some.ensures.value ∙ c.in_ok-pairs.ensures in
    let second : texts_of c.deref-in-Some-2.result.now ≡ pairs = ap texts_of c.deref-in-Some-2.ensures.value ∙ c.in_ok-pairs.ensures in
    let stays : form ≡ json_form pairs = c.json_form.ensures ∙ ap json_form first in
    let exact : IsExact path text name = (behind_front json_path path text c.in-Some.ensures.cases, c.deref.ensures.value ∙ c.in_ok-octets.ensures) in
    IfOk-weaker c.begin_handle.result _ (AsksAddress c.args.language path pairs)
    (λ (next : Next) h. (form, text, name, (inl (stays, exact), subst (λ (ps : List (List ℕ × List ℕ)). AsksFor text name form ps next) second h)))
    c.begin_handle.ensures.asks

pub returns-then-starts_with-clause-asks : goal.returns-then-starts_with-clause-asks
returns-then-starts_with-clause-asks c = λ of_handle. absurd (no_handle c.args.path.now of_handle (λ rest e. c.in_default.ensures.cases rest e) (_, c.if-starts_with.ensures.cases.1.1))

pub returns-clause-asks : goal.returns-clause-asks
returns-clause-asks c = λ of_handle.
    let path = c.args.path.now in
    let pairs : List (List ℕ × List ℕ) = pairs_of c.args.query.now in
    let form : AnswerFormat = c.page_form.result in
    let text : List ℕ = c.name_within.result.now in
    let name : List ℕ = c.between_spaces-name.result.now in
    let first : texts_of c.deref-3.result.now ≡ pairs = ap texts_of c.deref-3.ensures.value ∙ c.in_ok-pairs.ensures in
    let second : texts_of c.deref-4.result.now ≡ pairs = ap texts_of c.deref-4.ensures.value ∙ c.in_ok-pairs.ensures in
    let stays : form ≡ page_form c.args.language pairs = c.page_form.ensures ∙ ap (page_form c.args.language) first in
    let sent : List ℕ = c.without_slash-sent.result.now in
    let written : IsWritten sent text = subst (λ (octets : List ℕ). IsWritten octets text) c.as_bytes.ensures.value c.name_within.ensures in
    let spelt = c.between_spaces-name.ensures ∙ ap between_spaces (c.deref-2.ensures.value ∙ c.in_ok-octets-2.ensures) in
    let meant : IsMeant path sent name = (c.without_slash-sent.ensures, (text, (written, spelt))) in
    IfOk-weaker c.begin_handle-2.result _ (AsksAddress c.args.language path pairs)
    (λ (next : Next) h. (form, sent, name, (inr (stays, (λ under. c.if-starts_with.ensures.cases under.0 under.1), meant), subst (λ (ps : List (List ℕ × List ℕ)). AsksFor sent name form ps next) second h)))
    c.begin_handle-2.ensures.asks
