-- The line of a value that fields say, and of any other.
use Rattle.std.proofs.Common.{◌≡◌, ◌++◌, Some, None, refl, ap, inl, inr}
use Rattle.std.specs.Prelude.{◌&&◌}
use Rattle.std.proofs.lemmas.Bool.{and_parts}
use Rattle.std.proofs.lemmas.Option.{cond_some}
use Rattle.hdl_value.specs.declared.value.Value.{Value}
use Rattle.hdl_value.specs.Tests.{is_sound}
use Rattle.hdl_value_lines.specs.Data.{format_and_data, data_text}
use Rattle.hdl_value_lines.specs.Lines.{has_fields, fields_text, octets_text, line_of}
use Rattle.hdl_value_lines.specs.Hiding.{value_of_fields, whole_line, whole_data}
use Rattle.hdl_value_lines.proofs.Readings.{either}

pub line_of_fields : (v w : Value) → value_of_fields v ≡ Some w → whole_line v ≡ fields_text w ++ data_text w
unfolding line_of
line_of_fields v w e =
    let is = cond_some (is_sound v && has_fields v) v w e in
    let both = and_parts (is_sound v) (has_fields v) is.0 in
    rw both.0 (rw both.1 (ap (λ (u : Value). fields_text u ++ data_text u) is.1))

pub data_of_fields : (v w : Value) → value_of_fields v ≡ Some w → whole_data v ≡ (format_and_data (data_text w)).1
data_of_fields v w e =
    let is = cond_some (is_sound v && has_fields v) v w e in
    rw is.0 (ap (λ (u : Value). (format_and_data (data_text u)).1) is.1)

pub line_of_octets : (v : Value) → value_of_fields v ≡ None → whole_line v ≡ octets_text v
unfolding line_of
line_of_octets v e = elim (either (is_sound v)) [
  | inl sound ↦ elim (either (has_fields v)) [
    | inl fields ↦ let bad = rw (sound, fields) at e in absurd cc
    | inr other ↦ rw (sound, other) refl
  ]
  | inr broken ↦ rw broken refl
]
