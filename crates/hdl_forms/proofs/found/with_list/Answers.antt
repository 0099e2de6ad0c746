use Rattle.std.proofs.lemmas.Result.{IfOk-weaker}
use Rattle.hdl_forms.specs.Template.{markup_of}
use Rattle.hdl_forms.specs.declared.markup.Template.TheVariants as templates
use Rattle.hdl_forms.proofs.Rows.{between}
use Rattle.hdl_forms.proofs.found.with_list.Goals as goal

pub returns : goal.returns
returns c =
    IfOk-weaker c.with-2.result _ _
    (λ after e. between (markup_of templates.Rows) (markup_of templates.RowsEnd) c.args.page _ _ after _ _ _ c.in_ok-page.ensures c.new.ensures c.in_ok-page-2.ensures e c.new-2.ensures) c.with-2.ensures
