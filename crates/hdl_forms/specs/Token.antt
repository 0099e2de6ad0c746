-- Tokens of forms: SHA-256 twice, each time behind octets of the key, as HMAC (RFC 2104) has it.
use Rattle.std.specs.Prelude.{ℕ, ◌-◌, nat_le, nat_lt, Bool, false, ◌&&◌, List, ◌∷◌, ◌++◌, Option, Some, None, decimal}
use Rattle.std.specs.Str.{bytes_eq}
use Rattle.hex.specs.Hex.{encode_lower}
use Rattle.sha2.specs.Sha256.{sha256}
use Rattle.hdl_value.specs.Reading.{◌>>=◌}
use Rattle.hdl_value_lines.specs.Fields.{cut_at, number_in}
use Rattle.hdl_forms.specs.declared.token.TokenKey.{TokenKey}
use Rattle.hdl_forms.specs.declared.token.TheConstants.{FORM_LIFE_SECONDS}

-- the digest of a text under a key
unfoldable pub seal : TokenKey → List ℕ → List ℕ
seal key text = sha256 (key.outer ++ sha256 (key.inner ++ text))

-- the moment in decimal, a space, and what the form is for
abbrev pub sealed_text : List ℕ → ℕ → List ℕ
sealed_text subject moment = decimal moment ++ 32 ∷ subject

-- the moment, `-`, and the digest in hexadecimal digits
unfoldable pub token_of : TokenKey → List ℕ → ℕ → List ℕ
token_of key subject moment = decimal moment ++ 45 ∷ encode_lower (seal key (sealed_text subject moment))

-- the moment that a token says: the number before the first `-`
unfoldable pub moment_in : List ℕ → Option ℕ
moment_in token = cut_at 45 token >>= λ x. number_in x.0

-- it isn't to come, and less than FORM_LIFE seconds have passed
abbrev pub is_fresh : ℕ → ℕ → Bool
is_fresh now moment = nat_le moment now && nat_lt (now - moment) FORM_LIFE_SECONDS

abbrev pub accepts_at : TokenKey → List ℕ → ℕ → List ℕ → Option ℕ → Bool
accepts_at key subject now token None = false
accepts_at key subject now token (Some moment) = is_fresh now moment && bytes_eq token (token_of key subject moment)

-- it is the token of a form for this, of the moment that it says, and fresh
unfoldable pub accepts : TokenKey → List ℕ → ℕ → List ℕ → Bool
accepts key subject now token = accepts_at key subject now token (moment_in token)
