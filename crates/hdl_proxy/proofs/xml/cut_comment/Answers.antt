use Rattle.std.proofs.Common.{ℕ, List, ◌++◌, ap, sym, ◌∙◌, refl, append_assoc}
use Rattle.std.specs.Prelude.{codes}
use Rattle.std.specs.List.{concat}
use Rattle.hdl_proxy.specs.Xml.{IsInComment}
use Rattle.hdl_proxy.proofs.Pieces.{more_pieces}
use Rattle.hdl_proxy.proofs.xml.cut_comment.Goals as goal

pub returns-in-Some : goal.returns-in-Some
returns-in-Some c =
    let read = c.loop.invariant in
    let behind = c.in-Some.behind.now in (
      codes "<!--" ++ (concat read.0 ++ codes "-->"),
      (
        (read.0, (read.1, refl)),
        read.2 ∙ ap (λ (x : List ℕ). codes "<!--" ++ x) (ap (λ (x : List ℕ). concat read.0 ++ x) c.in-Some.ensures.found ∙ sym (append_assoc (concat read.0) (codes "-->") behind))
            ∙ sym (append_assoc (codes "<!--") (concat read.0 ++ codes "-->") behind),
      ),
    )

pub loop-preserved : goal.loop-preserved
loop-preserved c =
    let piece = c.in_ok-rest-2.ensures in
    more_pieces IsInComment (codes "<!--") c.args.text.now c.loop.rest.now piece.0 c.in_ok-rest-2.rest.now c.loop.invariant piece.1.0 piece.1.1
