use Rattle.std.proofs.Common.{◌≡◌, ◌∙◌, refl, sym, ap, subst, List}
use Rattle.hdl_value.specs.Place.{Place}
use Rattle.hdl_value.specs.Refs.{place_of}
use Rattle.hdl_rows.specs.Table.{values_of}
use Rattle.hdl_reach.specs.declared.search.Search.{Search}
use Rattle.hdl_reach.specs.Reach.{grants}
use Rattle.hdl_reach.specs.Seen.{places}
use Rattle.hdl_reach.specs.Found.{known_at, raised_at}
use Rattle.hdl_reach.specs.Looks.{AddsNone}
use Rattle.hdl_reach.specs.Search.{handle_of}
use Rattle.hdl_reach.specs.Views.{mask_of}
use Rattle.hdl_reach.proofs.Costs.{value_read}
use Rattle.hdl_reach.proofs.Looks.{left_none, left_on}
use Rattle.hdl_reach.proofs.Steps.{passed_none, further_none, passed_on, further_on}
use Rattle.hdl_reach.proofs.search.Search.pass.Goals as goal

pub returns-in_default-2-clause-search : goal.returns-in_default-2-clause-search
returns-in_default-2-clause-search g c =
    let t = g.R.Rows.content c.args.rows.now in
    let old = c.args.self.now in
    let new : Search = record { handle = old.handle; found = c.settle.new.self; looked_up = old.looked_up } in
    let none = sym c.in_ok-mask.ensures.mask ∙ ap mask_of c.in_default-2.is in
    (passed_none t (grants (values_of t (handle_of old))) old new c.pop.new.self c.settle.new.self c.in-Some.here c.requires.search c.in-Some.ensures.known c.in-Some.ensures.taken c.in_ok-mask.ensures.known c.in_ok-mask.ensures.waiting none, refl)

pub returns-in_default-2-clause-further : goal.returns-in_default-2-clause-further
returns-in_default-2-clause-further g c =
    let t = g.R.Rows.content c.args.rows.now in
    let old = c.args.self.now in
    let new : Search = record { handle = old.handle; found = c.settle.new.self; looked_up = old.looked_up } in
    let none = sym c.in_ok-mask.ensures.mask ∙ ap mask_of c.in_default-2.is in
    further_none t (grants (values_of t (handle_of old))) old new c.pop.new.self c.settle.new.self c.in-Some.here c.requires.search c.in-Some.ensures.known c.in-Some.ensures.taken c.in_ok-mask.ensures.known c.in_ok-mask.ensures.waiting none refl

pub returns-clause-search : goal.returns-clause-search
returns-clause-search g c =
    let t = g.R.Rows.content c.args.rows.now in
    let old = c.args.self.now in
    let new : Search = record { handle = old.handle; found = c.raise_all.new.self; looked_up = old.looked_up } in
    let m = c.in-Some-2.mask.0 in
    let mask = sym (ap mask_of c.in-Some-2.is) ∙ c.in_ok-mask.ensures.mask in
    let listed = ap places c.deref.ensures.value ∙ c.in_ok-looked.ensures.found in
    let raised = subst (λ (ps : List Place). (q : Place) → known_at c.raise_all.new.self q ≡ raised_at (known_at c.settle.new.self) ps m q) listed c.in_ok-raise_all.ensures.known in
    (passed_on t (grants (values_of t (handle_of old))) old new c.pop.new.self c.settle.new.self c.in-Some.here c.requires.search c.in-Some.ensures.known c.in-Some.ensures.taken c.in_ok-mask.ensures.known c.in_ok-mask.ensures.waiting m mask raised c.in_ok-raise_all.ensures.waiting, refl)

pub returns-clause-further : goal.returns-clause-further
returns-clause-further g c =
    let t = g.R.Rows.content c.args.rows.now in
    let old = c.args.self.now in
    let new : Search = record { handle = old.handle; found = c.raise_all.new.self; looked_up = old.looked_up } in
    let m = c.in-Some-2.mask.0 in
    let mask = sym (ap mask_of c.in-Some-2.is) ∙ c.in_ok-mask.ensures.mask in
    let listed = ap places c.deref.ensures.value ∙ c.in_ok-looked.ensures.found in
    let raised = subst (λ (ps : List Place). (q : Place) → known_at c.raise_all.new.self q ≡ raised_at (known_at c.settle.new.self) ps m q) listed c.in_ok-raise_all.ensures.known in
    further_on t (grants (values_of t (handle_of old))) old new c.pop.new.self c.settle.new.self c.in-Some.here c.requires.search c.in-Some.ensures.known c.in-Some.ensures.taken c.in_ok-mask.ensures.known c.in_ok-mask.ensures.waiting m mask raised c.in_ok-raise_all.ensures.gained

pub returns-in_err-looked-clause-cost : goal.returns-in_err-looked-clause-cost
returns-in_err-looked-clause-cost g c = value_read (g.R.Rows.content c.args.rows.now) (place_of c.in-Some.here) _ _ c.list_at.ensures.cost

pub returns-in_err-raise_all-clause-cost : goal.returns-in_err-raise_all-clause-cost
returns-in_err-raise_all-clause-cost g c = value_read (g.R.Rows.content c.args.rows.now) (place_of c.in-Some.here) _ _ c.list_at.ensures.cost

pub returns-clause-cost : goal.returns-clause-cost
returns-clause-cost g c = value_read (g.R.Rows.content c.args.rows.now) (place_of c.in-Some.here) _ _ c.list_at.ensures.cost

pub returns-in_default-2-clause-left : goal.returns-in_default-2-clause-left
returns-in_default-2-clause-left g c =
    let old = c.args.self.now in
    let new : Search = record { handle = old.handle; found = c.settle.new.self; looked_up = old.looked_up } in
    left_none (g.R.Rows.content c.args.rows.now) old new c.pop.new.self c.settle.new.self c.in-Some.here c.in-Some.ensures.known c.in-Some.ensures.taken c.in_ok-mask.ensures.known c.in_ok-mask.ensures.waiting refl refl

pub returns-clause-left : goal.returns-clause-left
returns-clause-left g c =
    let t = g.R.Rows.content c.args.rows.now in
    let old = c.args.self.now in
    let new : Search = record { handle = old.handle; found = c.raise_all.new.self; looked_up = old.looked_up } in
    let m = c.in-Some-2.mask.0 in
    let mask = sym (ap mask_of c.in-Some-2.is) ∙ c.in_ok-mask.ensures.mask in
    let listed = ap places c.deref.ensures.value ∙ c.in_ok-looked.ensures.found in
    let raised = subst (λ (ps : List Place). (q : Place) → known_at c.raise_all.new.self q ≡ raised_at (known_at c.settle.new.self) ps m q) listed c.in_ok-raise_all.ensures.known in
    let found = passed_on t (grants (values_of t (handle_of old))) old new c.pop.new.self c.settle.new.self c.in-Some.here c.requires.search c.in-Some.ensures.known c.in-Some.ensures.taken c.in_ok-mask.ensures.known c.in_ok-mask.ensures.waiting m mask raised c.in_ok-raise_all.ensures.waiting in
    left_on t old new c.pop.new.self c.settle.new.self c.in-Some.here c.in-Some.ensures.known c.in-Some.ensures.taken c.in_ok-mask.ensures.known c.in_ok-mask.ensures.waiting refl found
    (subst (AddsNone c.settle.new.self c.raise_all.new.self) listed c.in_ok-raise_all.ensures.left)
