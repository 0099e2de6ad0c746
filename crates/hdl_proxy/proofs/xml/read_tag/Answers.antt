use Rattle.std.proofs.Common.{ℕ, List, ◌++◌, ap, sym, ◌∙◌, refl, append_assoc}
use Rattle.std.specs.List.{concat}
use Rattle.hdl_proxy.proofs.xml.read_tag.Goals as goal

pub returns : goal.returns
returns c =
    let read = c.in_ok-attributes.ensures in
    let front = c.args.front.now in
    let blank = c.cut_blank.result.0.now in
    let rest = c.cut_blank.result.1.now in (
      front ++ (concat read.0 ++ blank),
      (
        (read.0, blank, (read.1.0, c.cut_blank.ensures.0, refl)),
        c.in-Some.ensures.found ∙ ap (λ (x : List ℕ). front ++ x) (read.1.1 ∙ ap (λ (x : List ℕ). concat read.0 ++ x) c.cut_blank.ensures.1 ∙ sym (append_assoc (concat read.0) blank rest))
            ∙ sym (append_assoc front (concat read.0 ++ blank) rest),
      ),
    )
