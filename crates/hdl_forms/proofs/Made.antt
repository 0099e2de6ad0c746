-- Pages that are made of templates.
use Rattle.std.proofs.Common.{◌≡◌, ◌∙◌, ap, sym, ℕ, List, [], ◌∷◌, ◌++◌}
use Rattle.std.proofs.lemmas.Grind.{flat_map-append}
use Rattle.std.proofs.lemmas.List.{flat_map_more}
use Rattle.std.specs.List.{flat_map}
use Rattle.hdl_forms.specs.declared.markup.Template.{Template}
use Rattle.hdl_forms.specs.Template.{IsMade, filled, markup_of, part}

-- a template at the end of a page
pub made_more : (before after : List ℕ) (template : Template) (texts : List (List ℕ)) → IsMade before → after ≡ before ++ filled (markup_of template) texts → IsMade after
made_more before after template texts made e =
    (made.0 ++ (template, texts) ∷ [], e ∙ ap (λ octets. octets ++ filled (markup_of template) texts) made.1 ∙ flat_map_more part [] made.0 (template, texts))

-- one page behind another
pub made_both : (before part after : List ℕ) → IsMade before → IsMade part → after ≡ before ++ part → IsMade after
made_both before octets after one two e =
    (one.0 ++ two.0, e ∙ ap (λ b. b ++ octets) one.1 ∙ ap (λ o. flat_map part one.0 ++ o) two.1 ∙ sym (flat_map-append part one.0 two.0))
