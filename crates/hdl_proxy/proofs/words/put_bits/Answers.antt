use Rattle.std.proofs.Common.{◌≡◌, ◌++◌, ◌∷◌, [], ◌%◌, ◌+◌, string_bytes, rules}
use Rattle.hdl_value.specs.Permission.{bits}
use Rattle.hdl_value.proofs.Bits.{bits_on, bits_end}
use Rattle.hdl_proxy.proofs.words.put_bits.Goals as goal

pub loop-preserved : goal.loop-preserved
loop-preserved c =
    let pushed : string_bytes c.push.new.self ≡ string_bytes c.loop.out ++ (48 + c.loop.rest % 2) ∷ [] = search rules in
    rw pushed (bits_on c.args.count c.loop.counter c.loop.rest (string_bytes c.loop.out) (string_bytes c.args.out.now ++ bits c.args.count c.args.number) c.loop-test.true c.loop.invariant)

pub returns : goal.returns
returns c = bits_end c.args.count c.loop.counter c.loop.rest (string_bytes c.loop.out) (string_bytes c.args.out.now ++ bits c.args.count c.args.number) c.loop-test.false c.loop.invariant
