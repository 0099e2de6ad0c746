use Rattle.std.proofs.Common.{◌≡◌, ℕ, List, All, true, inl, inr, sym, ap, ◌∙◌, refl, rules}
use Rattle.std.specs.Prelude.{codes}
use Rattle.hdl_languages.specs.Words.{words}
use Rattle.hdl_languages.specs.declared.phrase.Phrase.TheVariants as phrases
use Rattle.hdl_name.specs.Fault.{IsFaultOf}
use Rattle.hdl_name.specs.Name.{IsHandle}
use Rattle.hdl_proxy.specs.Begin.{IsFaultSentence, is_called_back}
use Rattle.hdl_proxy.specs.Format.{language_of}
use Rattle.hdl_proxy.specs.Query.{IsIndex, texts_of, values_named}
use Rattle.hdl_proxy.proofs.Refused.{refused_for}
use Rattle.hdl_proxy.proofs.proxy.begin_handle.Goals as goal

pub returns-then-is_called_back-clause-asks : goal.returns-then-is_called_back-clause-asks
returns-then-is_called_back-clause-asks c =
    let form = c.args.form in
    let pairs : List (List ℕ × List ℕ) = texts_of c.args.pairs.now in
    let called : is_called_back form pairs ≡ true = sym c.is_called_back.ensures ∙ c.if-is_called_back.true in
    refused_for form c.args.octets.now c.args.sent.now pairs (codes "callback is refused: pages of any site may read this JSON without it.") c.refuse.result
    (inl (called, refl)) c.refuse.ensures.refuses

pub returns-in_default-clause-asks : goal.returns-in_default-clause-asks
returns-in_default-clause-asks c =
    let pairs : List (List ℕ × List ℕ) = texts_of c.args.pairs.now in
    let bad : ¬ (All IsIndex (values_named (codes "index") pairs)) = search rules in
    refused_for c.args.form c.args.octets.now c.args.sent.now pairs c.words-why.result.now c.refuse-in_default.result
    (inr (inl (bad, c.words-why.ensures ∙ ap (λ language. words language phrases.BadIndex) c.language.ensures))) c.refuse-in_default.ensures.refuses

pub returns-in-Err-clause-asks : goal.returns-in-Err-clause-asks
returns-in-Err-clause-asks c =
    let pairs : List (List ℕ × List ℕ) = texts_of c.args.pairs.now in
    let none : ¬ (IsHandle c.args.octets.now) = search rules in
    let first : IsFaultOf c.args.octets.now c.in-Err.fault = search rules in
    let why : IsFaultSentence (language_of c.args.form) c.args.octets.now c.words-why-in-Err.result.now = (c.in-Err.fault, (first, search rules)) in
    refused_for c.args.form c.args.octets.now c.args.sent.now pairs c.words-why-in-Err.result.now c.refuse-in-Err.result
    (inr (inr (none, why))) c.refuse-in-Err.ensures.refuses
