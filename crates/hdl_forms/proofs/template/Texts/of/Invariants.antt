use Rattle.std.proofs.Common.{◌≡◌, take}
use Rattle.hdl_proxy.proofs.Texts.{nows}
use Rattle.hdl_forms.proofs.template.Texts.of.Given as goal

abbrev pub invariant-loop-text : goal.invariant-loop-text
invariant-loop-text l = l.list.items ≡ take l.text-index (nows l.texts)
