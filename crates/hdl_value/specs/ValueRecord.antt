-- A value, under a name that the `Value` of a model does not hide.
use Rattle.hdl_value.specs.declared.value.Value.{Value}

abbrev pub ValueRecord : Type 0
ValueRecord = Value
