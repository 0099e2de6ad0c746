-- The last changes of a handle, below its form: of the values before a change only those that everyone may read.
use Rattle.std.specs.Prelude.{◌≡◌, ◌⊎◌, ℕ, ℤ, pos, ◌*◌, ◌/◌, ◌%◌, ◌==◌, Bool, true, false, not, ◌&&◌, if◌then◌else◌, List, [], ◌∷◌, ◌++◌, codes, decimal, flat_map, length, take, Option, Some, None}
use Rattle.std.specs.Str.{bytes_eq}
use Rattle.hdl_value.specs.Reading.{◌>>=◌}
use Rattle.hdl_value_lines.specs.Fields.{cut_at, permissions_in}
use Rattle.hdl_history.specs.declared.entry.Author.{Author}
use Rattle.hdl_history.specs.declared.entry.Author.TheVariants as authors
use Rattle.hdl_history.specs.declared.entry.Entry.{Entry}
use Rattle.hdl_history.specs.declared.entry.Operation.{Operation}
use Rattle.hdl_history.specs.declared.entry.Operation.TheVariants as operations
use Rattle.hdl_history.specs.declared.entry.ValuesBefore.{ValuesBefore}
use Rattle.hdl_history.specs.declared.entry.ValuesBefore.TheVariants as before
use Rattle.hdl_proxy.specs.Words.{IsMomentText}
use Rattle.hdl_proxy.specs.declared.answer.Answer.{Answer}
use Rattle.hdl_proxy.specs.declared.answer.Status.{Status}
use Rattle.hdl_proxy.specs.declared.answer.Status.TheVariants as statuses
use Rattle.hdl_forms.specs.Template.{filled, markup_of}
use Rattle.hdl_forms.specs.declared.history.TheConstants.{SHOWN_MOST}
use Rattle.hdl_forms.specs.declared.markup.Template.TheVariants as templates

-- ---- the values before a change

abbrev pub lets_read : Option ℕ → Bool
lets_read None = false
lets_read (Some bits) = bits / 2 % 2 == 1

-- the third of its permissions' digits is 1, and it is no secret key
abbrev pub is_public : List ℕ → List ℕ → Bool
is_public kind digits = lets_read (permissions_in digits) && not (bytes_eq kind (codes "HS_SECKEY"))

abbrev pub if_public : List ℕ → List ℕ → List ℕ × List ℕ × List ℕ → Option (List ℕ × List ℕ × List ℕ)
if_public kind digits value = if is_public kind digits then Some value else None

-- index, type and data of a line, INDEX TYPE TTL PERMISSIONS FORMAT DATA, of a value that everyone may read
unfoldable pub shown_line : List ℕ → Option (List ℕ × List ℕ × List ℕ)
shown_line line = do
  index ← cut_at 32 line
  kind ← cut_at 32 index.1
  ttl ← cut_at 32 kind.1
  digits ← cut_at 32 ttl.1
  format ← cut_at 32 digits.1
  if_public kind.0 digits.0 (index.0, kind.0, format.1)

-- such a value; of any other line nothing is shown
abbrev pub value_part : Option (List ℕ × List ℕ × List ℕ) → List ℕ
value_part None = []
value_part (Some (index, kind, text)) = filled (markup_of templates.Before) (kind ∷ index ∷ text ∷ [])

abbrev pub line_part : List ℕ → List ℕ
line_part line = value_part (shown_line line)

abbrev pub before_part : ValuesBefore → List ℕ
before_part (before.Lines lines) = flat_map line_part lines
before_part (before.LeftOut count) = []

-- ---- a change

abbrev pub operation_words : Operation → List ℕ
operation_words operations.Create = codes "created"
operation_words operations.Delete = codes "deleted"
operation_words operations.Add = codes "values added"
operation_words operations.Remove = codes "values removed"
operation_words operations.Modify = codes "changed"

-- a key as INDEX:HANDLE
abbrev pub author_words : Author → List ℕ
author_words authors.Anyone = codes "anyone, without a key"
author_words authors.OtherServer = codes "another server"
author_words (authors.Key key) = decimal key.index ++ 58 ∷ key.handle

-- a moment in milliseconds since 1970, in whole seconds; no words where the calendar hasn't it
abbrev pub nanoseconds : ℕ → ℤ
nanoseconds moment = pos (moment / 1000 * 1_000_000_000)

abbrev pub IsMoment : ℕ → List ℕ → Type 0
IsMoment moment words = IsMomentText (nanoseconds moment) words ⊎ (words ≡ [])

-- when it was made, what it did, and who made it
abbrev pub IsHeadPart : Entry → List ℕ → Type 0
IsHeadPart entry part =
    (moment : List ℕ) × IsMoment entry.moment moment
    × (part ≡ filled (markup_of templates.Entry) (moment ∷ moment ∷ operation_words entry.operation ∷ author_words entry.author ∷ []))

-- and the values before it that everyone may read
abbrev pub IsEntryPart : Entry → List ℕ → Type 0
IsEntryPart entry part =
    (head : List ℕ) × IsHeadPart entry head × (part ≡ (head ++ before_part entry.before) ++ filled (markup_of templates.EntryEnd) [])

-- these changes, one after the other
abbrev pub IsEntries : List Entry → List ℕ → Type 0
IsEntries [] part = part ≡ []
IsEntries (entry ∷ entries) part = (first rest : List ℕ) × IsEntryPart entry first × IsEntries entries rest × (part ≡ first ++ rest)

-- the first of them
abbrev pub IsHistoryPart : List Entry → List ℕ → Type 0
IsHistoryPart entries part =
    (parts : List ℕ) × IsEntries (take SHOWN_MOST entries) parts
    × (part ≡ (filled (markup_of templates.History) [] ++ parts) ++ filled (markup_of templates.HistoryEnd) [])

-- ---- the page

abbrev pub is_success : Status → Bool
is_success statuses.Success = true
is_success other = false

abbrev pub shows_history : Answer → List Entry → Bool
shows_history answer entries = is_success answer.status && not (length entries == 0)

-- the same page with them at its end
pub record Adds (entries : List Entry) (before : Answer) (after : Answer) : Type 0 where
  pub status : after.status ≡ before.status
  pub media : after.media ≡ before.media
  pub location : after.location ≡ before.location
  pub cache_control : after.cache_control ≡ before.cache_control
  pub title : after.title ≡ before.title
  pub body : (part : List ℕ) × IsHistoryPart entries part × (after.body.items ≡ before.body.items ++ part)

abbrev pub HasHistory : List Entry → Answer → Answer → Type 0
HasHistory entries before after = ((shows_history before entries ≡ true) × Adds entries before after) ⊎ ((shows_history before entries ≡ false) × (after ≡ before))
