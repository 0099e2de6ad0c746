-- What a step on one connection is in the book.
use Rattle.std.proofs.Common.{◌≡◌, ℕ, List, [], ◌∷◌, Option, Some, MatchOption, refl, sym, subst, inl, inr}
use Rattle.slab.specs.Slab.{Slab, get, with_value, SameValues}
use Rattle.slab.proofs.SlabLemmas.{Updates-with_value}
use Rattle.hdl_overflow_lane.specs.declared.entry.ConnectionEntry.{ConnectionEntry}
use Rattle.hdl_overflow_lane.specs.ConnectionBuffers.{Step, is_observed, says, refusal_of, Takes, TakesAll, Pauses}
use Rattle.hdl_overflow_lane.specs.Connections.{Goes, Rests}

pub goes : (s : Slab ConnectionEntry) (place : ℕ) (e f : ConnectionEntry) (steps : List Step) → get s place ≡ Some e → f.serial ≡ e.serial → TakesAll e.talk steps f.talk
    → Goes s (with_value s place f) place steps
goes s place e f steps here same run = (e, f, here, Updates-with_value s place f (rw here refl), same, run)

pub goes_one : (s : Slab ConnectionEntry) (place : ℕ) (e f : ConnectionEntry) (step : Step) → get s place ≡ Some e → f.serial ≡ e.serial → Takes e.talk step f.talk
    → Goes s (with_value s place f) place (step ∷ [])
goes_one s place e f step here same takes = goes s place e f (step ∷ []) here same (f.talk, takes, refl)

pub rests : (s : Slab ConnectionEntry) (place : ℕ) (e f : ConnectionEntry) → get s place ≡ Some e → f.serial ≡ e.serial → Pauses e.talk f.talk
    → Rests s (with_value s place f) place
rests s place e f here same (inl (nothing, stays)) = (e, here, inl (nothing, goes s place e f [] here same stays))
rests s place e f here same (inr (fresh, (fault, v, told, said))) =
    let run : TakesAll e.talk (is_observed fault ∷ says (refusal_of fault) ∷ []) f.talk = (v, told, (f.talk, said, refl)) in
    (e, here, inr (fault, fresh, goes s place e f (is_observed fault ∷ says (refusal_of fault) ∷ []) here same run))

-- the same of the connection that is at a place
pub goes_at : (s : Slab ConnectionEntry) (place : ℕ) (e f : ConnectionEntry) (steps : ConnectionEntry → List Step) → get s place ≡ Some e → f.serial ≡ e.serial → TakesAll e.talk (steps e) f.talk
    → MatchOption (get s place) (SameValues s (with_value s place f)) (λ x. Goes s (with_value s place f) place (steps x))
goes_at s place e f steps here same run =
    let gone = goes s place e f (steps e) here same run in
    subst (λ (o : Option ConnectionEntry). MatchOption o (SameValues s (with_value s place f)) (λ x. Goes s (with_value s place f) place (steps x))) (sym here) gone
