use Rattle.std.proofs.Common.{◌++◌, ◌∷◌, [], List, ℕ, map, rules, ap, ◌∙◌}
use Rattle.std.proofs.lemmas.List.{map-append}
use Rattle.std.proofs.lemmas.Result.{err_from_is_err_and}
use Rattle.hdl_tenants.specs.Register.{Register, Row, place}
use Rattle.hdl_tenants.proofs.Registers.{opened_added}
use Rattle.hdl_tenants.proofs.Sayings.{from_digits}
use Rattle.hdl_tenants.proofs.Opened.{from_place, known_row}
use Rattle.hdl_tenants.proofs.text.Tenants.add_value.Goals as goal

pub returns-in_err-value-clause-fault : goal.returns-in_err-value-clause-fault
returns-in_err-value-clause-fault c =
    let p = err_from_is_err_and c.from_residual-in_err-value.result c.from_residual-in_err-value.ensures.1 in
    rw (p.1, p.2) (from_digits c.args.self.now c.args.line.now.handle.now c.args.line.now.digits.now _ c.in_err-value.ensures.fault)

pub returns-in_err-add-clause-fault : goal.returns-in_err-add-clause-fault
returns-in_err-add-clause-fault c =
    let r : Register = record { publishers = c.self.inside.publishers; hostings = c.self.inside.prefixes; sites = c.self.inside.sites; opening = c.self.inside.opening.items } in
    let indexes = rw (← c.self.view_is) at c.requires in
    let p = err_from_is_err_and c.from_residual-in_err-add.result c.from_residual-in_err-add.ensures.1 in
    rw (p.1, p.2, ← c.self.view_is) (from_place r c.args.line.now.handle.now c.args.line.now.digits.now c.in_ok-value.value c.in_ok-name.name c.canon.result.now
    c.in_ok-name.ensures.name c.canon.ensures _ (c.in_err-add.ensures.fault (map place r.opening) indexes) c.in_ok-value.ensures.value)

pub returns-clause-ok : goal.returns-clause-ok
returns-clause-ok c =
    let r : Register = record { publishers = c.self.inside.publishers; hostings = c.self.inside.prefixes; sites = c.self.inside.sites; opening = c.self.inside.opening.items } in
    let handle = c.args.line.now.handle.now in
    let v = c.in_ok-value.value in
    let indexes = rw (← c.self.view_is) at c.requires in
    let known = known_row r handle c.args.line.now.digits.now v c.in_ok-name.name c.canon.result.now c.in_ok-name.ensures.name c.canon.ensures
    c.prefix.result.now c.prefix.ensures (c.contains.ensures.0 (search rules))
    (c.in_ok-add.ensures.once (map place r.opening) indexes) (c.in_ok-add.ensures.room (map place r.opening) indexes) in
    let grown = c.in-Ok.ensures.items ∙ ap (λ (n : List ℕ). c.self.inside.opening.items ++ (n, v) ∷ []) c.in_ok-name.ensures.name in
    rw (← c.self.view_is) (v, c.in_ok-name.ensures.named, c.in_ok-value.ensures.value, known, ap (λ (rows : List Row). record r { opening = rows }) grown)

pub returns-clause-taken : goal.returns-clause-taken
returns-clause-taken c =
    let rows = c.self.inside.opening.items in
    let indexes = rw (← c.self.view_is) at c.requires in
    let more = c.in_ok-add.ensures.ok (map place rows) indexes in
    rw (c.in-Ok.ensures.items, map-append place) (rw c.canon.ensures at more)

pub invariant_of-self-2 : goal.invariant_of-self-2
invariant_of-self-2 c =
    let r : Register = record { publishers = c.self.inside.publishers; hostings = c.self.inside.prefixes; sites = c.self.inside.sites; opening = c.self.inside.opening.items } in
    let handle = c.args.line.now.handle.now in
    let v = c.in_ok-value.value in
    let indexes = rw (← c.self.view_is) at c.requires in
    let known = known_row r handle c.args.line.now.digits.now v c.in_ok-name.name c.canon.result.now c.in_ok-name.ensures.name c.canon.ensures
    c.prefix.result.now c.prefix.ensures (c.contains.ensures.0 (search rules))
    (c.in_ok-add.ensures.once (map place r.opening) indexes) (c.in_ok-add.ensures.room (map place r.opening) indexes) in
    let grown = c.in-Ok.ensures.items ∙ ap (λ (n : List ℕ). c.self.inside.opening.items ++ (n, v) ∷ []) c.in_ok-name.ensures.name in
    let text = c.in_ok-value.ensures.value in
    rw grown (opened_added r handle v c.self.invariant c.in_ok-name.ensures.named text.sound text.spelt.fits known)
