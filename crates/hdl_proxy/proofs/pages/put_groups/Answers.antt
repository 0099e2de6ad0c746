use Rattle.std.proofs.Common.{◌≡◌, ◌+◌, ℕ, List, [], ◌++◌, ap, refl, subst, sym, take, ◌∙◌, append_assoc, append-nil, arith}
use Rattle.hdl_value.specs.declared.value.Value.{Value}
use Rattle.hdl_proxy.specs.Pages.{IsGroupAt}
use Rattle.hdl_proxy.proofs.Sections.{groups_all, groups_more, no_group}
use Rattle.hdl_proxy.proofs.pages.put_groups.Goals as goal

pub loop-value-preserved : goal.loop-value-preserved
loop-value-preserved c =
    let values = c.args.values.now in
    let i = c.loop-value.value-index in
    let done = c.loop-value.invariant.1 in
    let put = c.in_ok-put_group_at.ensures in
    let before : c.values_before-before.result.now ≡ take i values = c.values_before-before.ensures ∙ ap (λ (n : ℕ). take n values) c.loop-value.invariant.0 in
    let group = subst (λ (seen : List Value). IsGroupAt c.args.language c.args.are_urls values seen c.value-item.result put.0) before put.1 in (
      ap (λ (n : ℕ). n + 1) c.loop-value.invariant.0,
      (
        done.0 ++ put.0,
        groups_more c.args.language c.args.are_urls values i c.value-item.result done.0 put.0 (omega arith) c.value-item.is done.1 group,
        put.2 ∙ ap (λ (x : List ℕ). x ++ put.0) done.2 ∙ append_assoc c.args.page.now.octets.items done.0 put.0,
      ),
    )

pub loop-value-init : goal.loop-value-init
loop-value-init c = (refl, ([], no_group c.args.language c.args.are_urls c.args.values.now, sym (append-nil c.args.page.now.octets.items)))

pub returns : goal.returns
returns c =
    let done = c.loop-value.invariant.1 in
    (done.0, groups_all c.args.language c.args.are_urls c.args.values.now c.loop-value.value-index done.0 (omega arith) done.1, done.2)
