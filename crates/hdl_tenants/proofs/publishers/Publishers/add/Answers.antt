use Rattle.std.proofs.Common.{◌≡◌, sym, ap, refl, ◌∙◌, None, arith}
use Rattle.std.specs.Str.{bytes_eq}
use Rattle.std.specs.String.{string_bytes}
use Rattle.std.specs.Map.{lookup}
use Rattle.std.proofs.lemmas.List.Sums.{sum_by-append}
use Rattle.indexmap.proofs.CallerLemmas.{insert_entry-new}
use Rattle.hdl_tenants.specs.Record.{publisher_in}
use Rattle.hdl_tenants.proofs.Maps.{found-Contains, absent-Contains, none-from_is_some, shown-push}
use Rattle.hdl_tenants.proofs.publishers.Publishers.add.Goals as goal

pub returns-then-contains_key-clause-fault : goal.returns-then-contains_key-clause-fault
returns-then-contains_key-clause-fault c = rw (← c.self.view_is) (found-Contains _ publisher_in (λ p. p.name) c.args.line.now.name.now (λ e. refl) c.self.inside.by_name.entries (sym c.contains_key.ensures ∙ c.if-contains_key.true))

pub returns-then-line-self-clause-fault : goal.returns-then-line-self-clause-fault
returns-then-line-self-clause-fault c = rw (← c.self.view_is) (absent-Contains _ publisher_in (λ p. p.name) c.args.line.now.name.now (λ e. refl) c.self.inside.by_name.entries (sym c.contains_key.ensures ∙ c.if-contains_key.false), omega (arith, c.self.invariant.total, c.self.invariant.few))

pub returns-clause-absent : goal.returns-clause-absent
returns-clause-absent c = rw (← c.self.view_is) (absent-Contains _ publisher_in (λ p. p.name) c.args.line.now.name.now (λ e. refl) c.self.inside.by_name.entries (sym c.contains_key.ensures ∙ c.if-contains_key.false))

pub returns-clause-ok : goal.returns-clause-ok
returns-clause-ok c =
    let same : string_bytes c.in-Ok.name ≡ c.args.line.now.name.now = c.in-Ok.ensures.ok in
    let none : lookup (λ k. bytes_eq (string_bytes c.in-Ok.name) (string_bytes k)) c.self.inside.by_name.entries ≡ None
    = none-from_is_some _ (rw same (sym c.contains_key.ensures ∙ c.if-contains_key.false)) in
    let grown = c.in-Ok-insert.ensures.entries ∙ insert_entry-new _ c.self.inside.by_name c.in-Ok.name _ none in
    rw (← c.self.view_is) (shown-push publisher_in _ _ _ _ grown (ap (λ p. record { name = p; lanes = c.args.line.now.lanes; port = c.args.line.now.port; wire = c.args.line.now.wire }) same))

pub invariant_of-self-2 : goal.invariant_of-self-2
invariant_of-self-2 c =
    let same : string_bytes c.in-Ok.name ≡ c.args.line.now.name.now = c.in-Ok.ensures.ok in
    let none : lookup (λ k. bytes_eq (string_bytes c.in-Ok.name) (string_bytes k)) c.self.inside.by_name.entries ≡ None
    = none-from_is_some _ (rw same (sym c.contains_key.ensures ∙ c.if-contains_key.false)) in
    let grown = c.in-Ok-insert.ensures.entries ∙ insert_entry-new _ c.self.inside.by_name c.in-Ok.name _ none in
    let shown = shown-push publisher_in _ _ _ _ grown refl in
    record {
      total = rw shown (simp sum_by-append (omega (arith, c.self.invariant.total)));
      few = omega (arith, c.self.invariant.total, c.self.invariant.few);
    }
