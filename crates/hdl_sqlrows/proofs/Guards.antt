-- The indexes that the tables get, with their names written out.
use Rattle.std.proofs.Common.{◌≡◌, arith}
use Rattle.std.proofs.lemmas.Fmt.{decimal_digit}
use Rattle.hdl_sqlrows.specs.Layout.{layout, guards}

pub guards_are : layout.indexes ≡ guards
guards_are = rw (decimal_digit 1 (omega arith))
