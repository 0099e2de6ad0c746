use Rattle.std.proofs.Common.{◌≡◌, ◌∙◌, ◌++◌, ◌∷◌, [], ap, List, ℕ}
use Rattle.std.proofs.lemmas.Result.{IfOk-weaker}
use Rattle.hdl_proxy.specs.Link.{path_to}
use Rattle.hdl_forms.specs.Lists.{name_at, row_template}
use Rattle.hdl_forms.specs.Template.{filled, markup_of}
use Rattle.hdl_forms.proofs.found.with_row.Goals as goal

-- three texts, one after the other
three : (a b c : List ℕ) (l0 l1 l2 l3 : List (List ℕ)) → l0 ≡ [] → l1 ≡ l0 ++ a ∷ [] → l2 ≡ l1 ++ b ∷ [] → l3 ≡ l2 ++ c ∷ [] → l3 ≡ a ∷ b ∷ c ∷ []
three a b c l0 l1 l2 l3 e0 e1 e2 e3 = e3 ∙ ap (λ l. l ++ c ∷ []) (e2 ∙ ap (λ l. l ++ b ∷ []) (e1 ∙ ap (λ l. l ++ a ∷ []) e0))

pub returns : goal.returns
returns c =
    let name = name_at c.args.handles.now c.args.place in
    let path : c.as_bytes.result.now ≡ path_to name = c.as_bytes.ensures.value ∙ c.in_ok-path.ensures.spelt ∙ ap path_to c.name_at-name.ensures in
    let texts = three c.as_bytes.result.now c.name_at-name.result.now c.url_at.result.now c.new.result.list.items c.in_ok-texts.texts.list.items c.in_ok-and.field-0.list.items c.in_ok-texts-2.texts.list.items
    c.new.ensures c.in_ok-texts.ensures c.in_ok-and.ensures c.in_ok-texts-2.ensures
    ∙ ap (λ a. a ∷ c.name_at-name.result.now ∷ c.url_at.result.now ∷ []) path
    ∙ ap (λ b. path_to name ∷ b ∷ c.url_at.result.now ∷ []) c.name_at-name.ensures
    ∙ ap (λ u. path_to name ∷ name ∷ u ∷ []) c.url_at.ensures in
    IfOk-weaker c.with.result _ _
    (λ after e. e ∙ ap (λ t. c.args.page ++ filled (markup_of t) c.in_ok-texts-2.texts.list.items) c.row_template.ensures ∙ ap (λ t. c.args.page ++ filled (markup_of (row_template c.args.handles.now c.args.place)) t) texts)
    c.with.ensures
