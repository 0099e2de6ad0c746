use Rattle.std.proofs.lemmas.Result.{IfOk-weaker}
use Rattle.hdl_forms.proofs.lists.list_of.Goals as goal

pub returns-clause-list : goal.returns-clause-list
returns-clause-list c =
    IfOk-weaker c.shown.result _ _ (λ answer shows. (c.in_ok-search.search, c.in_ok-part.part, c.in_ok-search.ensures, c.in_ok-part.ensures.page, shows)) c.shown.ensures.body
