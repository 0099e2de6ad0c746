-- What a journal has told once one more write was taken, and which change the news take.
use Rattle.std.proofs.Common.{◌≡◌, Bool, true, List, [], ◌∷◌, ◌++◌, Option, Some, None, MatchOption, refl, sym, ap, ◌∙◌, subst}
use Rattle.std.proofs.lemmas.List.{map-append}
use Rattle.hdl_rows.specs.Write.{Write}
use Rattle.hdl_durablerows.specs.Writes.{write_in}
use Rattle.hdl_serve.specs.declared.news.StampedChange.{StampedChange}
use Rattle.hdl_cluster.specs.declared.journal.Written.{Written}
use Rattle.hdl_cluster.specs.Told.{told_by, seen_by}

pub told_more : (old new : List Written) (taken : Written) (w : Write) → new ≡ old ++ taken ∷ [] → write_in taken.write ≡ w → told_by new ≡ told_by old ++ w ∷ []
told_more old new taken w is same = ap told_by is ∙ (map-append (λ (x : Written). write_in x.write) old (taken ∷ []) ∙ ap (λ (x : Write). told_by old ++ x ∷ []) same)

heads : (a b : Written) (xs ys : List Written) → a ∷ xs ≡ b ∷ ys → a ≡ b
heads a b xs ys is = cc

-- the write that was seen to be this one is the one that is taken
pub told_next : (old mid new seen : List Written) (next taken : Written) (w : Write) → mid ≡ old → (rest : List Written) × (seen ≡ next ∷ rest) → (rest : List Written) × (seen ≡ taken ∷ rest)
    → write_in next.write ≡ w → new ≡ mid ++ taken ∷ [] → told_by new ≡ told_by old ++ w ∷ []
told_next old mid new seen next taken w same (xs, front) (ys, first) is more =
    let one : next ≡ taken = heads next taken xs ys (sym front ∙ first) in
    told_more old new taken w (more ∙ ap (λ (l : List Written). l ++ taken ∷ []) same) (ap (λ (x : Written). write_in x.write) (sym one) ∙ is)

pub told_same : (old new : List Written) → new ≡ old → told_by new ≡ told_by old
told_same old new is = ap told_by is

pub seen_front : (changes : List StampedChange) (c : StampedChange) → (rest : List StampedChange) × (changes ≡ c ∷ rest) → seen_by true changes ≡ Some c
seen_front changes c (rest, is) = ap (seen_by true) is

pub takes_seen : (changes old new : List StampedChange) (c : StampedChange) → (rest : List StampedChange) × (changes ≡ c ∷ rest) → new ≡ old ++ c ∷ [] → MatchOption (seen_by true changes) (new ≡ old) (λ x. new ≡ old ++ x ∷ [])
takes_seen changes old new c (rest, is) taken = subst (λ (xs : List StampedChange). MatchOption (seen_by true xs) (new ≡ old) (λ x. new ≡ old ++ x ∷ [])) (sym is) taken
