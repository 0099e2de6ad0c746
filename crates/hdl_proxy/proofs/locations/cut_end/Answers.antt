use Rattle.std.proofs.Common.{◌++◌, refl, inl, inr}
use Rattle.std.specs.Prelude.{codes}
use Rattle.hdl_proxy.proofs.Pieces.{three_pieces}
use Rattle.hdl_proxy.proofs.locations.cut_end.Goals as goal

pub returns-in-Some : goal.returns-in-Some
returns-in-Some c = (codes "/>", (inl refl, c.in-Some.ensures.found))

pub returns : goal.returns
returns c =
    let blank = c.cut_blank.result.0.now in (
      codes ">" ++ (blank ++ codes "</location>"),
      (
        inr (blank, (c.cut_blank.ensures.0, refl)),
        three_pieces c.args.text.now _ _ c.in_ok-rest.rest.now (codes ">") blank (codes "</location>") c.in_ok-inside.ensures.found c.cut_blank.ensures.1 c.in_ok-rest.ensures.found,
      ),
    )
