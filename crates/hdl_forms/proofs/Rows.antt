-- Parts of a page, one for each item of a list.
use Rattle.std.proofs.Common.{◌≡◌, ◌∙◌, ◌<◌, ◌+◌, ◌++◌, ◌∷◌, [], ap, sym, refl, arith, ℕ, List, length, drop, drop-cons, get_or, suc, add-one}
use Rattle.std.specs.List.{flat_map}
use Rattle.std.proofs.lemmas.List.{append_assoc}
use Rattle.hdl_copied_handles.specs.declared.listed.ListedHandle.{ListedHandle}
use Rattle.hdl_forms.specs.Lists.{with_found, with_list}
use Rattle.hdl_forms.specs.Template.{filled}

-- with the part of one more item, the parts of those behind it still make the whole
pub one_more : {X : Type 0} (f : X → List ℕ) (whole before after : List ℕ) (xs : List X) (i : ℕ) (d x : X) → i < length xs → x ≡ get_or xs i d → after ≡ before ++ f x
    → before ++ flat_map f (drop i xs) ≡ whole → after ++ flat_map f (drop (i + 1) xs) ≡ whole
one_more f whole before after xs i d x less item e so =
    let rest = flat_map f (drop (suc i) xs) in
    ap (λ n. after ++ flat_map f (drop n xs)) (add-one i)
    ∙ ap (λ page. page ++ rest) (e ∙ ap (λ y. before ++ f y) item)
    ∙ append_assoc before (f (get_or xs i d)) rest
    ∙ ap (λ part. before ++ part) (sym (ap (flat_map f) (drop-cons xs i d less)))
    ∙ so

-- a page that had nothing has this template with these texts
pub put_in : (markup page before : List ℕ) (texts given : List (List ℕ)) → page ≡ before ++ filled markup texts → before ≡ [] → texts ≡ given → page ≡ filled markup given
put_in markup page before texts given e none same = e ∙ ap (λ p. p ++ filled markup texts) none ∙ ap (filled markup) same

-- two templates without texts, and what stands between them
pub between : (first last page one two after : List ℕ) (a b : List (List ℕ)) (middle : List ℕ) → one ≡ page ++ filled first a → a ≡ [] → two ≡ one ++ middle → after ≡ two ++ filled last b → b ≡ []
    → after ≡ ((page ++ filled first []) ++ middle) ++ filled last []
between first last page one two after a b middle e0 n0 e1 e2 n1 =
    e2 ∙ ap (λ t. two ++ filled last t) n1 ∙ ap (λ p. p ++ filled last []) (e1 ∙ ap (λ p. p ++ middle) (e0 ∙ ap (λ t. page ++ filled first t) n0))

-- what was found behind its heading, and behind it a template without texts
pub footed : (markup one two three head : List ℕ) (handles : List ListedHandle) (seen places : List ℕ) (texts : List (List ℕ)) → one ≡ head → two ≡ with_found one handles seen → seen ≡ places
    → three ≡ two ++ filled markup texts → texts ≡ [] → three ≡ with_found head handles places ++ filled markup []
footed markup one two three head handles seen places texts begun found same foot none =
    foot ∙ ap (λ t. two ++ filled markup t) none
    ∙ ap (λ p. p ++ filled markup []) (found ∙ ap (λ p. with_found p handles seen) begun ∙ ap (λ all. with_found head handles all) same)

-- the list of places that aren't none
pub some_found : (page : List ℕ) (handles : List ListedHandle) (places : List ℕ) → 0 < length places
    → with_list page handles places ≡ with_found page handles places
some_found page handles [] less = absurd (omega (arith, less))
some_found page handles (first ∷ places) less = refl
