-- Text with the numbers of characters that turn a direction, character after character.
use Rattle.std.proofs.Common.{◌≡◌, ℕ, List, [], ◌++◌, length, IsUtf8, refl, ap, ◌∙◌}
use Rattle.std.specs.Char.{encode_utf8}
use Rattle.std.specs.Str.{chars}
use Rattle.std.proofs.lemmas.List.{nil_from_length}
use Rattle.std.proofs.lemmas.Str.{chars-nil, chars_past_char}
use Rattle.hdl_proxy.specs.Escape.{visible_char, visible_text}

pub visible_none : (text : List ℕ) → length text ≡ 0 → visible_text text ≡ []
unfolding visible_text
visible_none text none = rw (ap chars (nil_from_length text none) ∙ chars-nil) refl

pub visible_step : (text rest : List ℕ) (c : ℕ) → IsUtf8 text → text ≡ encode_utf8 c ++ rest → visible_text text ≡ visible_char c ++ visible_text rest
unfolding visible_text
visible_step text rest c utf8 parts = rw (chars_past_char text rest c utf8 parts) refl
