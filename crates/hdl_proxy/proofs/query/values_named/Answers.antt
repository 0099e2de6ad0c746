use Rattle.std.proofs.Common.{◌≡◌, true, false, take, ap, ◌∙◌, arith}
use Rattle.std.specs.List.{filter_map}
use Rattle.std.proofs.lemmas.Grind.{common_steps}
use Rattle.hdl_proxy.proofs.Pairs.{is_named, named_value, value_pushed, value_skipped, values_texts}
use Rattle.hdl_proxy.proofs.query.values_named.Goals as goal
use Rattle.hdl_proxy.proofs.query.values_named.Goals.{then-eq+in_ok-push, else-eq}

pub loop-pair-preserved : goal.loop-pair-preserved
loop-pair-preserved c =
    elim c.if-eq.branch [
      | then-eq+in_ok-push w ↦
          let named : is_named c.args.name.now c.pair-item.result ≡ true = cc in
          rw (w.values-is, w.in_ok-push.ensures.items)
          (value_pushed c.args.name.now c.args.pairs.now c.loop-pair.pair-index c.pair-item.result c.loop-pair.values.items _ c.loop-pair-test.true c.pair-item.is named w.as_str-then-eq.ensures.value c.loop-pair.invariant)
      | else-eq w ↦
          let named : is_named c.args.name.now c.pair-item.result ≡ false = cc in
          rw w.values-is
          (value_skipped c.args.name.now c.args.pairs.now c.loop-pair.pair-index c.pair-item.result _ c.loop-pair-test.true c.pair-item.is named c.loop-pair.invariant)
    ]

pub returns : goal.returns
returns c =
    let whole : take c.loop-pair.pair-index c.args.pairs.now ≡ c.args.pairs.now = grind (arith, common_steps) in
    c.loop-pair.invariant ∙ ap (λ l. filter_map (named_value c.args.name.now) l) whole ∙ values_texts c.args.name.now c.args.pairs.now
