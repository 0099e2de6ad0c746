-- A law over lines.
use Rattle.std.specs.Prelude.{◌≡◌, false, ⊤, ℕ, ◌<◌, ◌^◌, ◌==◌, List, length, slice_index, Ok}
use Rattle.std.specs.List.{AllByRecursion}
use Rattle.hdl_limits.specs.Octets.{AreOctets}
use Rattle.hdl_history.specs.declared.entry.Author.{Author}
use Rattle.hdl_history.specs.declared.entry.Author.TheVariants as author
use Rattle.hdl_history.specs.declared.entry.ValuesBefore.{ValuesBefore}
use Rattle.hdl_history.specs.declared.entry.ValuesBefore.TheVariants as before
use Rattle.hdl_history.specs.declared.entry.Entry.{Entry}
use Rattle.hdl_history.specs.Lines.{tab, left_out, line_of}
use Rattle.hdl_history.specs.Read.{entry_in}

-- an octet isn't among these
abbrev pub Lacks : ℕ → List ℕ → Type 0
Lacks stop octets = AllByRecursion (λ octet. (octet == stop) ≡ false) octets

-- the line of a value is something without a tab, and doesn't begin with '!'
pub record IsValueText (line : List ℕ) : Type 0 where
  pub something : 0 < length line
  pub value : (slice_index line 0 == left_out) ≡ false
  pub no_tab : Lacks tab line

abbrev pub AuthorFits : Author → Type 0
AuthorFits author.Anyone = ⊤
AuthorFits author.OtherServer = ⊤
AuthorFits (author.Key key) = (key.index < 2 ^ 32) × AreOctets key.handle

abbrev pub BeforeFits : ValuesBefore → Type 0
BeforeFits (before.Lines lines) = AllByRecursion IsValueText lines
BeforeFits (before.LeftOut count) = count < 2 ^ 64

-- the parts of an entry are such as the code's types have, and the lines of values as they are written
pub record EntryFits (e : Entry) : Type 0 where
  pub moment : e.moment < 2 ^ 64
  pub handle : AreOctets e.handle
  pub author : AuthorFits e.author
  pub indexes : AllByRecursion (λ i. i < 2 ^ 32) e.indexes
  pub before : BeforeFits e.before

-- the line of an entry says that entry
abbrev pub WrittenIsRead : Type 0
WrittenIsRead = (e : Entry) → EntryFits e → entry_in (line_of e) ≡ Ok e
