use Rattle.std.proofs.Common.{◌∙◌, ◌++◌, ap}
use Rattle.std.proofs.lemmas.Result.{IfOk-weaker}
use Rattle.hdl_forms.specs.Warnings.{ends_in_mark, has_space, is_local_empty, warning_if}
use Rattle.hdl_forms.specs.declared.warnings.TheConstants.{LOCAL_EMPTY, NAME_MARK, NAME_SPACE}
use Rattle.hdl_forms.proofs.warnings.name_warnings.Goals as goal

pub returns : goal.returns
returns c =
    let name = c.args.name.now in
    let first =
    c.in_ok-part.ensures ∙ ap (λ b. c.new-part.result ++ warning_if b LOCAL_EMPTY.now) c.is_local_empty.ensures
    ∙ ap (λ p. p ++ warning_if (is_local_empty name) LOCAL_EMPTY.now) c.new-part.ensures in
    let two =
    c.in_ok-part-2.ensures ∙ ap (λ b. c.in_ok-part.part ++ warning_if b NAME_SPACE.now) c.has_space.ensures
    ∙ ap (λ p. p ++ warning_if (has_space name) NAME_SPACE.now) first in
    IfOk-weaker c.with_warning-3.result _ _
    (λ part e. e ∙ ap (λ b. c.in_ok-part-2.part ++ warning_if b NAME_MARK.now) c.ends_in_mark.ensures ∙ ap (λ p. p ++ warning_if (ends_in_mark name) NAME_MARK.now) two) c.with_warning-3.ensures
