-- A page: lines for people to read.
use Rattle.std.specs.Prelude.{ℕ, Bool, List, [], ◌∷◌, ◌++◌}
use Rattle.hdl_value_lines.specs.Printed.{printed_octets}

-- its lines so far, and whether the data of keys is shown in them
pub record PageText : Type 0 where
  pub shows_keys : Bool
  pub text : List ℕ

-- the page with one line more, as it is printed: without a control character but the line end
abbrev pub with_line : PageText → List ℕ → PageText
with_line printout line = record printout { text = printout.text ++ (printed_octets line ++ 10 ∷ []) }
