use Rattle.std.proofs.Common.{rules, arith, ◌≡◌, ◌≤◌, ◌+◌, ◌++◌, length, drop, refl, ap, ◌∙◌, length-append}
use Rattle.std.proofs.lemmas.List.{take_at}
use Rattle.std.proofs.lemmas.Slice.{take-put_mid}
use Rattle.hdl_workers.proofs.packet.join.Goals as goal

pub returns-clause-joined : goal.returns-clause-joined
returns-clause-joined c =
    let head : c.copy_from_slice.new.self ≡ c.args.envelope = search rules in
    let tail : c.copy_from_slice-2.new.self ≡ c.args.payload.now = search rules in
    let len : length c.args.envelope ≡ 20 = search rules in
    let fits : 20 ≤ length (c.args.envelope ++ drop 20 c.args.buffer.now) = omega (arith, length-append c.args.envelope (drop 20 c.args.buffer.now)) in
    rw (head, tail)
    (take-put_mid 20 _ (c.args.envelope ++ drop 20 c.args.buffer.now) c.args.payload.now (20 + length c.args.payload.now) refl fits
    ∙ ap (λ w. w ++ c.args.payload.now) (take_at c.args.envelope (drop 20 c.args.buffer.now) 20 len))
