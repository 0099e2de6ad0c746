use Rattle.std.proofs.Common.{◌≡◌, All, map, take}
use Rattle.hdl_proxy.specs.Query.{IsIndex, index_of}
use Rattle.hdl_proxy.proofs.Texts.{nows}
use Rattle.hdl_proxy.proofs.query.indexes_of.Given as goal

abbrev pub invariant-loop-text : goal.invariant-loop-text
invariant-loop-text l = record {
  good : All IsIndex (take l.text-index (nows l.text-items));
  read : l.indexes.items ≡ map index_of (take l.text-index (nows l.text-items));
}
