-- Laws over lines.
use Rattle.std.specs.Prelude.{◌≡◌, true, ℕ, ◌<◌, ◌^◌, List, Option, Ok, Err, IfSome}
use Rattle.hdl_limits.specs.Octets.{AreOctets}
use Rattle.hdl_value.specs.declared.value.Value.{Value}
use Rattle.hdl_value.specs.Data.{secret_key_kind}
use Rattle.hdl_value.specs.Spelling.{Fits}
use Rattle.hdl_value_lines.specs.declared.fault.LineFault.TheVariants.{Hidden}
use Rattle.hdl_value_lines.specs.Fields.{is_line}
use Rattle.hdl_value_lines.specs.Lines.{value_in, line_of, without_stamp}
use Rattle.hdl_value_lines.specs.Hiding.{hidden_text}
use Rattle.hdl_value_lines.specs.Printed.{printed_octets}

-- the line of a value says that value, but for its timestamp
abbrev pub WrittenIsRead : Type 0
WrittenIsRead = (v : Value) → Fits v → value_in (line_of v) ≡ Ok (without_stamp v)

-- what is printed has no control character
abbrev pub PrintedIsLine : Type 0
PrintedIsLine = (octets : List ℕ) → AreOctets octets → is_line (printed_octets octets) ≡ true

-- the line of a value is printed as it is
abbrev pub WrittenIsPrinted : Type 0
WrittenIsPrinted = (v : Value) → Fits v → printed_octets (line_of v) ≡ line_of v

-- the line of a hidden key says no value, and is printed as it is
pub record IsHiddenText (text : List ℕ) : Type 0 where
  pub refused : value_in text ≡ Err Hidden
  pub as_it_is : printed_octets text ≡ text

abbrev pub HiddenIsRefused : Type 0
HiddenIsRefused = (index : ℕ) (count : Option ℕ) → index < 2 ^ 32 → IfSome count (λ n. n < 2 ^ 32) → IsHiddenText (hidden_text index secret_key_kind count)
