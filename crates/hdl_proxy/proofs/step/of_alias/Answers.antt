use Rattle.std.proofs.Common.{◌≡◌, ℕ, List, ◌++◌, ap, ◌∙◌, refl, append_assoc}
use Rattle.hdl_languages.specs.Words.{words}
use Rattle.hdl_languages.specs.declared.phrase.Phrase.TheVariants as phrases
use Rattle.std.specs.Global.{Vec}
use Rattle.hdl_proxy.specs.Hops.{alias_part}
use Rattle.hdl_proxy.proofs.step.of_alias.Goals as goal

pub returns : goal.returns
returns c =
    let asked = c.args.asked.now in
    let title = c.args.answer.title.items in
    let body = c.args.answer.body.items in
    let alias = words c.args.language phrases.AnAlias in
    let begun : c.extend_from_slice.new.self.items ≡ asked ++ alias =
    c.in_ok-extend_from_slice.ensures.items ∙ ap (λ (x : List ℕ). c.in_ok-title.title.items ++ x) (c.as_bytes.ensures.value ∙ c.words.ensures) ∙ ap (λ (x : List ℕ). x ++ alias) (c.in_ok-title.ensures.items ∙ c.sent.ensures.octets) in
    let above = c.in_ok-put_alias.ensures ∙ ap (λ (x : List ℕ). x ++ alias_part c.args.language asked) c.empty-page.ensures in
    record {
      cache_control = refl;
      status = refl;
      location = refl;
      media = refl;
      tag = refl;
      about = refl;
      title = c.in_ok-extend_from_slice-2.ensures.items ∙ ap (λ (x : List ℕ). x ++ c.deref.result.now) begun
          ∙ ap (λ (x : List ℕ). (asked ++ alias) ++ x) c.deref.ensures.value ∙ append_assoc asked (alias) title;
      body = ap (λ (v : Vec ℕ). v.items) c.into_octets.ensures ∙ c.in_ok-part.ensures ∙ ap (λ (x : List ℕ). x ++ body) above;
    }
