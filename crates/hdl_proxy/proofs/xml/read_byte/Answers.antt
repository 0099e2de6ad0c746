use Rattle.std.proofs.Common.{◌≢◌, ◌∷◌, [], refl, inr, arith}
use Rattle.hdl_proxy.proofs.xml.read_byte.Goals as goal

pub returns : goal.returns
returns c =
    let no_entity : c.in_ok-byte.byte.now ≢ 38 = grind arith in
    let no_tag : c.in_ok-byte.byte.now ≢ 60 = grind arith in
    (c.in_ok-byte.byte.now ∷ [], (inr (inr (inr (inr (inr (refl, no_entity, no_tag))))), c.in_ok-byte.ensures.cases.0))
