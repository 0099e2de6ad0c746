-- Each connection of a book has its own steps.
use Rattle.std.proofs.Common.{◌≡◌, ℕ, Bool, true, false, cond, eqb, List, [], ◌∷◌, ◌++◌, Option, Some, None, refl, sym, subst, ap, ◌∙◌}
use Rattle.std.proofs.lemmas.Bool.{eqb-true, eqb-false}
use Rattle.slab.specs.Slab.{Slab, get, Updates}
use Rattle.hdl_overflow_lane.specs.declared.entry.ConnectionEntry.{ConnectionEntry}
use Rattle.hdl_overflow_lane.specs.ConnectionBuffers.{Talking, Step, fresh, TakesAll}
use Rattle.hdl_overflow_lane.specs.Run.{Move, comes, goes, leaves, stays, MovesAll, steps_at, IsEmpty}

pub steps_join : (first second : List Step) (t u v : Talking) → TakesAll t first u → TakesAll u second v → TakesAll t (first ++ second) v
steps_join [] second t u v here later = rw (sym here) later
steps_join (s ∷ ss) second t u v (mid, step, rest) later = (mid, step, steps_join ss second mid u v rest later)

-- what is at a place has these steps behind it
abbrev Has : Slab ConnectionEntry → ℕ → List Step → Type 0
Has b place steps = (e : ConnectionEntry) → get b place ≡ Some e → TakesAll fresh steps e.talk

some_is : (o : Option ConnectionEntry) (e f : ConnectionEntry) → o ≡ Some e → o ≡ Some f → e ≡ f
some_is o e f a b = let both : Some e ≡ Some f = sym a ∙ b in cc

none_is : (o : Option ConnectionEntry) (e : ConnectionEntry) → o ≡ None → o ≡ Some e → ⊥
none_is o e a b = let both : None ≡ Some e = sym a ∙ b in absurd cc

-- on the way to a place that isn't this one nothing changes here
elsewhere : (b mid : Slab ConnectionEntry) (p place : ℕ) (slot : Option ConnectionEntry) (before : List Step) → Updates b mid p slot → eqb p place ≡ false → Has b place before → Has mid place before
elsewhere b mid p place slot before upd test has e at = has e (sym (upd.others place (λ (q : place ≡ p). eqb-false p place test (sym q))) ∙ at)

-- what is at the place that changes
there : (b mid : Slab ConnectionEntry) (p place : ℕ) (slot : Option ConnectionEntry) → Updates b mid p slot → eqb p place ≡ true → get mid place ≡ slot
there b mid p place slot upd test = ap (λ (k : ℕ). get mid k) (sym (eqb-true p place test)) ∙ upd.changed

came : (b mid : Slab ConnectionEntry) (p place : ℕ) (before : List Step) (new : ConnectionEntry) → Updates b mid p (Some new) → new.talk ≡ fresh → Has b place before
    → (t : Bool) → eqb p place ≡ t → Has mid place (cond t [] before)
came b mid p place before new upd first has true test e at =
    ap (λ (f : ConnectionEntry). f.talk) (some_is (get mid place) e new at (there b mid p place (Some new) upd test)) ∙ first
came b mid p place before new upd first has false test e at = elsewhere b mid p place (Some new) before upd test has e at

went : (b mid : Slab ConnectionEntry) (p place : ℕ) (before steps : List Step) (old new : ConnectionEntry) → get b p ≡ Some old → Updates b mid p (Some new) → TakesAll old.talk steps new.talk → Has b place before
    → (t : Bool) → eqb p place ≡ t → Has mid place (cond t (before ++ steps) before)
went b mid p place before steps old new was upd run has true test e at =
    let same : e ≡ new = some_is (get mid place) e new at (there b mid p place (Some new) upd test) in
    let first = has old (ap (λ (k : ℕ). get b k) (sym (eqb-true p place test)) ∙ was) in
    subst (λ (f : ConnectionEntry). TakesAll fresh (before ++ steps) f.talk) (sym same) (steps_join before steps fresh old.talk new.talk first run)
went b mid p place before steps old new was upd run has false test e at = elsewhere b mid p place (Some new) before upd test has e at

left : (b mid : Slab ConnectionEntry) (p place : ℕ) (before : List Step) → Updates b mid p None → Has b place before → (t : Bool) → eqb p place ≡ t → Has mid place (cond t [] before)
left b mid p place before upd has true test e at = absurd (none_is (get mid place) e (there b mid p place None upd test) at)
left b mid p place before upd has false test e at = elsewhere b mid p place None before upd test has e at

kept : (ms : List Move) (b c : Slab ConnectionEntry) (place : ℕ) (before : List Step) → Has b place before → MovesAll b ms c → Has c place (steps_at place before ms)
kept [] b c place before has is e at = has e (ap (λ (s : Slab ConnectionEntry). get s place) (sym is) ∙ at)
kept (comes p ∷ ms) b c place before has (mid, (new, was, upd, first), rest) e at =
    kept ms mid c place (cond (eqb p place) [] before) (came b mid p place before new upd first has (eqb p place) refl) rest e at
kept (goes p steps ∷ ms) b c place before has (mid, (old, new, was, upd, same, run), rest) e at =
    kept ms mid c place (cond (eqb p place) (before ++ steps) before) (went b mid p place before steps old new was upd run has (eqb p place) refl) rest e at
kept (leaves p ∷ ms) b c place before has (mid, upd, rest) e at =
    kept ms mid c place (cond (eqb p place) [] before) (left b mid p place before upd has (eqb p place) refl) rest e at
kept (stays ∷ ms) b c place before has (mid, same, rest) e at =
    kept ms mid c place before (λ f here. has f (sym (same place) ∙ here)) rest e at

pub has_its_own_lem : (empty book : Slab ConnectionEntry) (moves : List Move) (place : ℕ) (e : ConnectionEntry) → IsEmpty empty → MovesAll empty moves book → get book place ≡ Some e
    → TakesAll fresh (steps_at place [] moves) e.talk
has_its_own_lem empty book moves place e none run at = kept moves empty book place [] (λ f here. absurd (none_is (get empty place) f (none place) here)) run e at
