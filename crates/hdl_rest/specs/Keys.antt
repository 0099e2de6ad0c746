-- Keys of JSON that stand twice in an object.
use Rattle.std.specs.Prelude.{◌≡◌, ◌≢◌, ℕ, suc, Bool, true, false, List, [], ◌∷◌, Some, if◌then◌else◌}
use Rattle.json.specs.Token.{Token, begin_object, end_object, begin_array, end_array, key, string, number, boolean, null, bad}
use Rattle.json.specs.Lex.{tokens}
use Rattle.serde_json.specs.Data.{Data}
use Rattle.serde_json.specs.Read.{read}
use Rattle.serde_json.specs.Written.{IsInOrder}

abbrev pub is_key : Token → Bool
is_key begin_object = false
is_key end_object = false
is_key begin_array = false
is_key end_array = false
is_key (key text) = true
is_key (string text) = false
is_key (number text) = false
is_key (boolean b) = false
is_key null = false
is_key bad = false

-- how many keys these have
abbrev pub keys_in : List Token → ℕ
keys_in [] = 0
keys_in (token ∷ rest) = if is_key token then suc (keys_in rest) else keys_in rest

-- A text that says the same has as many keys. Of a key that stands twice in an object only one value is read, so what is read then has fewer.
abbrev pub SaysOnce : List ℕ → Type 0
SaysOnce text = (d : Data) × (told : List ℕ) × (read text ≡ Some d) × IsInOrder told d × (keys_in (tokens text) ≡ keys_in (tokens told))

abbrev pub SaysAgain : List ℕ → Type 0
SaysAgain text = (d : Data) × (told : List ℕ) × (read text ≡ Some d) × IsInOrder told d × (keys_in (tokens text) ≢ keys_in (tokens told))
