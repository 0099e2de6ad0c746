-- Entity tags (RFC 9110, sections 8.8.3 and 13.1.2).
use Rattle.std.specs.Prelude.{◌≡◌, ◌≢◌, ◌⊎◌, ℕ, List, [], ◌∷◌, ◌++◌, Option, Some, None, codes, option_map, string_bytes}
use Rattle.std.specs.Borrow.{Bor}
use Rattle.std.specs.Str.Pattern.{HasTextAt}
use Rattle.hex.specs.Hex.{encode_lower}
use Rattle.sha2.specs.Sha256.{sha256}
use Rattle.hdl_proxy.specs.declared.answer.Answer.{Answer}
use Rattle.hdl_proxy.specs.declared.answer.CacheControl.TheVariants.{Never}
use Rattle.hdl_proxy.specs.declared.answer.Status.TheVariants.{Success, NotModified}

-- the tag of a body: its SHA-256 digest in hexadecimal digits, in quotes
abbrev pub tag_of : List ℕ → List ℕ
tag_of body = 34 ∷ encode_lower (sha256 body) ++ 34 ∷ []

-- it succeeds, and others may keep it
abbrev pub IsTaggable : Answer → Type 0
IsTaggable answer = (answer.status ≡ Success) × (answer.cache_control ≢ Never)

-- a field If-None-Match names the tag: it is `*`, or has the tag somewhere
abbrev pub IsNamedIn : List ℕ → List ℕ → Type 0
IsNamedIn field tag = (field ≡ codes "*") ⊎ ((i : ℕ) × (j : ℕ) × HasTextAt tag field i j)

abbrev pub IsNamedBy : Option (Bor (List ℕ)) → List ℕ → Type 0
IsNamedBy None tag = ⊥
IsNamedBy (Some field) tag = IsNamedIn field.now tag

-- the same answer with this tag
pub record Carries (before : Answer) (named : List ℕ) (after : Answer) : Type 0 where
  pub tag : option_map string_bytes after.tag ≡ Some named
  pub status : after.status ≡ before.status
  pub location : after.location ≡ before.location
  pub media : after.media ≡ before.media
  pub about : after.about ≡ before.about
  pub title : after.title ≡ before.title
  pub cache_control : after.cache_control ≡ before.cache_control
  pub body : after.body ≡ before.body

-- that the answer with this tag is unchanged: no body
pub record IsUnchanged (before : Answer) (named : List ℕ) (after : Answer) : Type 0 where
  pub tag : option_map string_bytes after.tag ≡ Some named
  pub status : after.status ≡ NotModified
  pub location : after.location ≡ before.location
  pub media : after.media ≡ before.media
  pub about : after.about ≡ before.about
  pub title : after.title ≡ before.title
  pub cache_control : after.cache_control ≡ before.cache_control
  pub body : after.body.items ≡ []

-- an answer that others may keep has its tag, and is unchanged where the client names that tag; every other one stays as it is
abbrev pub IsTagged : Answer → Option (Bor (List ℕ)) → Answer → Type 0
IsTagged before known after =
    (¬ (IsTaggable before) × (after ≡ before))
    ⊎ (IsTaggable before × ¬ (IsNamedBy known (tag_of before.body.items)) × Carries before (tag_of before.body.items) after)
    ⊎ (IsTaggable before × IsNamedBy known (tag_of before.body.items) × IsUnchanged before (tag_of before.body.items) after)
