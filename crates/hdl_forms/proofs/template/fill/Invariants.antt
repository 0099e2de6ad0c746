use Rattle.std.proofs.Common.{◌≡◌, ◌≤◌, ◌++◌, drop}
use Rattle.hdl_forms.specs.Template.{filled, filled_from}
use Rattle.hdl_forms.proofs.template.fill.Given as goal

abbrev pub invariant-loop-octet : goal.invariant-loop-octet
invariant-loop-octet l =
    (l.place ≤ l.octet-index)
    × (l.page.items ++ filled_from (drop l.octet-index l.template) l.texts l.place ≡ filled l.template l.texts)
