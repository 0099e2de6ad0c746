use Rattle.std.proofs.Common.{◌<◌, ◌++◌, length, refl, arith}
use Rattle.std.specs.Prelude.{codes}
use Rattle.std.proofs.lemmas.Grind.{common_steps}
use Rattle.hdl_proxy.proofs.Pieces.{five_pieces}
use Rattle.hdl_proxy.proofs.xml.cut_named.Goals as goal

pub returns : goal.returns
returns c =
    let front = c.cut_blank.result.0.now in
    let name = c.in_ok-name.name.now in
    let before = c.cut_blank-2.result.0.now in
    let behind = c.cut_blank-3.result.0.now in
    let some : 0 < length front = grind (arith, common_steps) in (
      front ++ (name ++ (before ++ (codes "=" ++ behind))),
      (
        (front, before, behind, (c.cut_blank.ensures.0, some, c.in_ok-name.ensures.0, c.in_ok-name.ensures.1, c.cut_blank-2.ensures.0, c.cut_blank-3.ensures.0, refl)),
        five_pieces c.args.text.now _ _ _ _ c.cut_blank-3.result.1.now front name before (codes "=") behind
            c.cut_blank.ensures.1 c.in_ok-name.ensures.2 c.cut_blank-2.ensures.1 c.in_ok-rest.ensures.found c.cut_blank-3.ensures.1,
      ),
    )
