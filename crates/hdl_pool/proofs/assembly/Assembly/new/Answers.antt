use Rattle.std.proofs.Common.{arith, ap, length, ◌∙◌, None}
use Rattle.std.proofs.lemmas.List.{length-replicate}
use Rattle.hdl_pool.proofs.AssemblyLemmas.{new_is, missing_new}
use Rattle.hdl_pool.proofs.assembly.Assembly.new.Goals as goal

pub invariant_of-result : goal.invariant_of-result
invariant_of-result c =
    let all = ap length c.loop.invariant ∙ length-replicate c.loop.counter None in
    let counted = missing_new c.loop.counter c.loop.payloads.items c.loop.invariant in
    (omega (arith, c.div_ceil-count.ensures), omega arith)

pub returns : goal.returns
returns c = new_is c.args.key c.args.message_len c.div_ceil-count.result c.loop.counter c.loop.payloads.items (c.div_ceil-count.ensures ∙ grind arith) c.loop.auto.counter-end c.loop-test.false c.loop.invariant
