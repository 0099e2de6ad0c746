use Rattle.std.proofs.Common.{◌≡◌, ◌++◌, ◌∷◌, [], List, ℕ, Contains, arith, sym, ap, subst, ◌∙◌, inl, inr}
use Rattle.std.proofs.lemmas.List.{map-append}
use Rattle.hdl_value.specs.Place.{Place}
use Rattle.hdl_tenants.specs.Taken.{place_in}
use Rattle.hdl_tenants.proofs.Places.{found, absent, place_decides, counted-more, not_of, of_not}
use Rattle.hdl_tenants.proofs.taken.TakenPlaces.add.Goals as goal

pub returns-then-count-ge-VALUES_MAX-clause-fault : goal.returns-then-count-ge-VALUES_MAX-clause-fault
returns-then-count-ge-VALUES_MAX-clause-fault c = λ places is. inr (omega (arith, is.counted c.args.handle.now, c.count-count.ensures, c.if-count-ge-VALUES_MAX.true))

pub returns-clause-room : goal.returns-clause-room
returns-clause-room c = λ places is. omega (arith, is.counted c.args.handle.now, c.count-count.ensures, c.if-count-ge-VALUES_MAX.false)

pub returns-then-not-added-clause-fault : goal.returns-then-not-added-clause-fault
returns-then-not-added-clause-fault c = λ places is.
    let p : Place = record { handle = c.args.handle.now; index = c.args.index } in
    let same : p ≡ record { handle = c.in-Ok.octets.items; index = c.args.index } = ap (λ (h : List ℕ). record { handle = h; index = c.args.index }) (sym c.in-Ok.ensures.items) in
    inl (subst (λ (xs : List Place). Contains xs p) is.listed (found _ place_in p (λ k. place_decides c.in-Ok.octets.items k.handle.items c.args.index k.index p same) c.args.self.now.places.keys (of_not _ (sym c.if-not-added.true ∙ c.in-Ok-insert.ensures.added))))

pub returns-clause-once : goal.returns-clause-once
returns-clause-once c = λ places is there.
    let p : Place = record { handle = c.args.handle.now; index = c.args.index } in
    let same : p ≡ record { handle = c.in-Ok.octets.items; index = c.args.index } = ap (λ (h : List ℕ). record { handle = h; index = c.args.index }) (sym c.in-Ok.ensures.items) in
    absent _ place_in p (λ k. place_decides c.in-Ok.octets.items k.handle.items c.args.index k.index p same) c.args.self.now.places.keys (not_of _ (sym c.if-not-added.false ∙ c.in-Ok-insert.ensures.added)) (subst (λ (xs : List Place). Contains xs p) (sym is.listed) there)

pub returns-clause-ok : goal.returns-clause-ok
returns-clause-ok c = λ places is.
    let p : Place = record { handle = c.args.handle.now; index = c.args.index } in
    let fresh = not_of _ (sym c.if-not-added.false ∙ c.in-Ok-insert.ensures.added) in
    let keys = rw fresh at c.in-Ok-insert.ensures.keys in
    record {
      listed = rw (keys, map-append place_in, is.listed, c.in-Ok.ensures.items) (λ i. places ++ p ∷ []);
      counted = λ h. rw c.in-Ok-insert-2.ensures.entries (counted-more (λ k. k.items) h c.in-Ok-from_slice.octets _ c.args.self.now.counts.entries places p c.in-Ok-from_slice.ensures.items (omega (arith, is.counted c.args.handle.now, c.count-count.ensures)) (is.counted h));
    }
