-- Where nobody else hosts the prefixes that a publisher rests on, no other lane changes what it rests on.
use Rattle.std.proofs.Common.{◌≡◌, ◌≢◌, ◌==◌, ℕ, List, [], ◌∷◌, Bool, true, false, cond, inl, inr, Option, Some, None, refl, sym, ap, ◌∙◌, subst, IsTrue, IsFalse, true≢false}
use Rattle.std.proofs.lemmas.Bool.{eq-eqb}
use Rattle.hdl_name.specs.Name.{prefix}
use Rattle.hdl_value.specs.Place.{Place, same_handle}
use Rattle.hdl_rows.specs.Table.{Table, has, at}
use Rattle.hdl_rows.specs.Write.{Write, handle_of, after_write}
use Rattle.hdl_rows.proofs.Writes.{apart, at_after, has_after, at-after_write, has-after_write}
use Rattle.hdl_ops.specs.declared.change.Change.{Change}
use Rattle.hdl_ops.specs.Tables.{write_of, stamped_write, apply_if}
use Rattle.hdl_laws.specs.Worlds.{World, Site, owner, hosts, algorithms}
use Rattle.hdl_laws.specs.Steps.{Turn, moment_of, IsAnswerFor, IsStep}
use Rattle.hdl_laws.specs.Runs.{IsRun}
use Rattle.hdl_laws.specs.Isolation.{Agrees, IsQuiet, is_owned_by, is_mine}
use Rattle.hdl_laws.specs.Laws.{IsUnshared, UnsharedIsQuiet}
use Rattle.hdl_laws.proofs.Restriction.{site_stays}
use Rattle.hdl_laws.proofs.Steps.{ChangesHosted, does_change}
use Rattle.hdl_laws.proofs.Writes.{stamped_handle}

module _ (s : Site) (u : ℕ) (C : List Place) (unshared : IsUnshared s u C) where
  same_agrees : (t : Table) → Agrees (hosts s u) C t t
  same_agrees t = record { handles = λ h e. refl; rows = λ p e. refl; covered = λ p e. refl }

  -- a change of a handle that is hosted for another leaves u's rows and the cover
  foreign_agrees : (v : ℕ) → v ≢ u → (t : Table) (moment : ℕ) (c : Option Change) → ChangesHosted (hosts s v) c → Agrees (hosts s u) C t (apply_if t moment c)
  foreign_agrees v other t moment None theirs = same_agrees t
  foreign_agrees v other t moment (Some c) theirs =
      let w : Write = stamped_write moment (write_of c) in
      let hosted : IsTrue (hosts s v (prefix (handle_of w))) = ap (λ h. hosts s v (prefix h)) (stamped_handle moment (write_of c)) ∙ theirs c refl in
      let elsewhere : (h : List ℕ) → IsFalse (hosts s v (prefix h)) → same_handle h (handle_of w) ≡ false =
      λ h e. apart h (handle_of w) (λ is. true≢false (sym hosted ∙ ap (λ g. hosts s v (prefix g)) (sym is) ∙ e)) in
      let stays : (p : Place) → IsFalse (hosts s v (prefix p.handle)) → at t p ≡ at (after_write t w) p =
      λ p e. sym (at-after_write t w p ∙ ap (λ b. cond b (at_after w p.index (at t p)) (at t p)) (elsewhere p.handle e)) in
      record {
        handles = λ h mine. sym (has-after_write t w h ∙ ap (λ b. cond b (has_after w (has t h)) (has t h)) (elsewhere h (unshared.own v h other mine)));
        rows = λ p mine. stays p (unshared.own v p.handle other mine);
        covered = λ p m. stays p (unshared.covered v p other m);
      }

module _ (u : ℕ) (C : List Place) where
  quiet_step : (w : World) (t : Turn) → IsUnshared w.site u C → IsStep w t → IsFalse (is_mine w.site u t.event) → Agrees (hosts w.site u) C w.table t.after.table
  quiet_step w t unshared (inr b) theirs = subst (λ x. Agrees (hosts w.site u) C w.table x) (sym (ap (λ (z : Turn). z.after.table) b.busy)) (same_agrees w.site u C unshared w.table)
  quiet_step w t unshared (inl a) theirs = by_owner (owner w.site t.event.lane) theirs a
    where
      by_owner : (o : Option ℕ) → IsFalse (is_owned_by o u) → IsAnswerFor w o t → Agrees (hosts w.site u) C w.table t.after.table
      by_owner None other e = subst (λ x. Agrees (hosts w.site u) C w.table x) (sym (ap (λ (z : Turn). z.after.table) e)) (same_agrees w.site u C unshared w.table)
      by_owner (Some v) other e =
          subst (λ x. Agrees (hosts w.site u) C w.table x) (sym (ap (λ (z : Turn). z.after.table) e.4))
          (foreign_agrees w.site u C unshared v (λ is. true≢false (sym (eq-eqb v u is) ∙ other)) w.table (moment_of t.event.what) e.0.change (does_change (hosts w.site v) w.table (algorithms w.site v) e.1 e.0 e.3))

pub unshared_is_quiet : UnsharedIsQuiet
unshared_is_quiet w [] u C run unshared = tt
unshared_is_quiet w (t ∷ ts) u C run unshared =
    let site : t.after.site ≡ w.site = site_stays w t run.0 in (
      quiet_step u C w t unshared run.0,
      subst (λ s. IsQuiet s u C t.after ts) site (unshared_is_quiet t.after ts u C run.1 (subst (λ s. IsUnshared s u C) (sym site) unshared)),
    )
