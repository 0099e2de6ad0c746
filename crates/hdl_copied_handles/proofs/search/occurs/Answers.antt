use Rattle.std.proofs.Common.{◌≡◌, ◌∙◌, ◌<◌, ◌+◌, ◌-◌, ◌∷◌, sym, ap, ℕ, Bool, false, ◌||◌, List, length, take, drop, drop-cons, get_or, suc, add-one}
use Rattle.std.proofs.lemmas.List.{take_rest}
use Rattle.hdl_copied_handles.specs.Search.{begins, occurs}
use Rattle.hdl_copied_handles.proofs.search.occurs.Goals as goal

-- a word that isn't at the front of a text stands in it just if it stands behind its first octet
passed : (word text : List ℕ) (i : ℕ) → i < length text → begins word (take (length text - i) (drop i text)) ≡ false
    → occurs word (drop (i + 1) text) ≡ occurs word (drop i text)
passed word text i less absent =
    let e : drop i text ≡ get_or text i 0 ∷ drop (suc i) text = drop-cons text i 0 less in
    let front : begins word (get_or text i 0 ∷ drop (suc i) text) ≡ false = ap (begins word) (sym e) ∙ ap (begins word) (sym (take_rest text i)) ∙ absent in
    let step : occurs word (get_or text i 0 ∷ drop (suc i) text) ≡ occurs word (drop (suc i) text) = ap (λ (b : Bool). b || occurs word (drop (suc i) text)) front in
    ap (λ n. occurs word (drop n text)) (add-one i) ∙ sym step ∙ ap (occurs word) (sym e)

pub loop-index-preserved : goal.loop-index-preserved
loop-index-preserved c =
    passed c.args.word.now c.args.text.now c.loop-index.index c.loop-index-test.true (sym c.begins.ensures ∙ c.if-begins.false) ∙ c.loop-index.invariant
