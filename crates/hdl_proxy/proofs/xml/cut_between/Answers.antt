use Rattle.std.proofs.Common.{◌⊎◌, ℕ, List, [], refl, inl, inr}
use Rattle.std.specs.List.{AllPass, concat}
use Rattle.hdl_proxy.specs.Xml.{IsComment, is_blank}
use Rattle.hdl_proxy.proofs.Pieces.{more_pieces}
use Rattle.hdl_proxy.proofs.xml.cut_between.Goals as goal

abbrev IsGap : List ℕ → Type 0
IsGap piece = AllPass is_blank piece ⊎ IsComment piece

pub loop-preserved : goal.loop-preserved
loop-preserved c =
    let text = c.args.text.now in
    let blank = more_pieces IsGap [] text c.loop.rest.now c.cut_blank.result.0.now c.cut_blank.result.1.now c.loop.invariant (inl c.cut_blank.ensures.0) c.cut_blank.ensures.1 in
    let comment = c.in-Some.ensures in
    more_pieces IsGap [] text c.cut_blank.result.1.now comment.0 c.in-Some.behind.now blank (inr comment.1.0) comment.1.1

pub returns-in_default : goal.returns-in_default
returns-in_default c =
    let blank = more_pieces IsGap [] c.args.text.now c.loop.rest.now c.cut_blank.result.0.now c.cut_blank.result.1.now c.loop.invariant (inl c.cut_blank.ensures.0) c.cut_blank.ensures.1 in
    (concat blank.0, ((blank.0, (blank.1, refl)), blank.2))
