use Rattle.std.proofs.Common.{◌≡◌, List, get_or, ap, inl, sym, ◌∙◌}
use Rattle.hdl_audit.specs.declared.follower.Challenged.{Challenged}
use Rattle.hdl_audit.proofs.Gains.{kept_by_remove}
use Rattle.hdl_audit.proofs.Own.{pending_at}
use Rattle.hdl_audit.proofs.follower.Follower.take_challenged.Goals as goal

pub returns-then-not-is_busy-clause-own : goal.returns-then-not-is_busy-clause-own
returns-then-not-is_busy-clause-own c = pending_at c.args.self.now.challenged.items c.in_ok-place.place c.args.peer c.args.session c.remove.result c.in_ok-place.ensures.place c.remove.ensures.value

pub returns-then-not-is_busy-clause-kept : goal.returns-then-not-is_busy-clause-kept
returns-then-not-is_busy-clause-kept c = λ x h. inl (kept_by_remove c.args.self.now.challenged.items c.remove.new.self.items c.in_ok-place.place c.remove.ensures.items x h)

pub returns-in-Ok-clause-own : goal.returns-in-Ok-clause-own
returns-in-Ok-clause-own c =
    let xs = c.args.self.now.challenged.items in
    let kept = c.in_ok-kept.kept.now in
    let is : kept ≡ get_or xs c.in_ok-place.place kept = c.in_ok-kept.ensures.lookup.1 ∙ ap (λ (all : List Challenged). get_or all c.in_ok-place.place kept) c.deref.ensures.value in
    let p = pending_at xs c.in_ok-place.place c.args.peer c.args.session kept c.in_ok-place.ensures.place is in
    (p.0, p.1, p.2, p.3, p.4, p.5 ∙ sym c.in-Ok.ensures)
