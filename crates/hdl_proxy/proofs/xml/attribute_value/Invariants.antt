use Rattle.std.proofs.Common.{◌≡◌, drop}
use Rattle.hdl_proxy.specs.Xml.{attribute_value}
use Rattle.hdl_proxy.proofs.xml.attribute_value.Given as goal

-- what is left says it
abbrev pub invariant-loop-one : goal.invariant-loop-one
invariant-loop-one l = attribute_value l.name (drop l.one-index l.attributes) ≡ attribute_value l.name l.attributes
