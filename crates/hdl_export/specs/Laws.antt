-- What is written is read back.
use Rattle.std.specs.Prelude.{◌≡◌, ◌++◌, ◌∷◌, ℕ, true, List, Some, map, filter, codes, IsTrue}
use Rattle.std.specs.List.{AllByRecursion, flat_map}
use Rattle.std.specs.Str.Lines.{lines}
use Rattle.hdl_name.specs.Name.{IsHandle, canonical, prefix}
use Rattle.hdl_value.specs.declared.value.Value.{Value}
use Rattle.hdl_value.specs.Fault.{IsSound}
use Rattle.hdl_value.specs.Place.{Place}
use Rattle.hdl_rows.specs.Table.{Table, has, at, IsPlaced}
use Rattle.hdl_rows.specs.Table as table
use Rattle.hdl_tenants.specs.Lines.{fields_of}
use Rattle.hdl_tenants.specs.Register.{Register, Row, IsRegister, prefixes_of}
use Rattle.hdl_tenants.specs.Text.{opened, place_of, IsLine, IsAccepted}
use Rattle.hdl_export.specs.Lines.{Lacks, is_expressible, value_line, text_of, is_other, IsWritable}
use Rattle.hdl_reach.specs.Laws.{IsOnward}
use Rattle.hdl_laws.specs.Worlds.{World, with_table, hosts}
use Rattle.hdl_laws.specs.Steps.{Turn}
use Rattle.hdl_laws.specs.Runs.{IsRun, events, outcomes}
use Rattle.hdl_laws.specs.Laws.{HostsNoRoot}
use Rattle.hdl_laws.specs.Isolation.{EachCovered, IsClosed, IsQuiet, restrict, turns_of, own_writes}
use Rattle.hdl_core.specs.Opening.{opening_table}
use Rattle.hdl_export.specs.Covers.{AreReferred, IsLeast}
use Rattle.hdl_export.specs.Prefixes.{prefix_named, prefix_given, AreAmong}
use Rattle.hdl_export.specs.Rows.{is_among, rows_in, foreign_rows}

-- the text of lines without a line feed has these lines
abbrev pub LinesAreRead : Type 0
LinesAreRead = (ls : List (List ℕ)) → AllByRecursion (Lacks 10) ls → lines (text_of ls) ≡ ls

-- a row whose handle can stand in a line, and whose value is octets
pub record IsWritableRow (row : Row) : Type 0 where
  pub handle : IsTrue (is_expressible row.0)
  pub value : IsWritable row.1

-- what the line of a row says is this row
abbrev pub ValueLineIsRead : Type 0
ValueLineIsRead = (row : Row) → IsWritableRow row → IsHandle row.0 → IsSound row.1 → IsLine (value_line row) (opened row.0 row.1)

-- the register with these rows to open with, in place of its own
abbrev pub with_rows : Register → List Row → Register
with_rows r rows = record r { opening = rows }

-- the lines that are written: those of a text that say no value, and the lines of these rows
abbrev pub written_lines : List (List ℕ) → List Row → List (List ℕ)
written_lines texts rows = filter is_other texts ++ map value_line rows

-- lines of an accepted text and of rows with which it is a register are accepted, and say these rows
abbrev pub RegisterIsRead : Type 0
RegisterIsRead = (texts : List (List ℕ)) (r : Register) (rows : List Row) → IsAccepted texts r → AllByRecursion IsWritableRow rows → IsRegister (with_rows r rows)
    → IsAccepted (written_lines texts rows) (with_rows r rows)

-- a text of lines of an accepted text and of rows says nothing else, if it is accepted
abbrev pub RowsAreOnly : Type 0
RowsAreOnly = (texts : List (List ℕ)) (r s : Register) (rows : List Row) → IsAccepted texts r → AllByRecursion IsWritableRow rows → IsAccepted (written_lines texts rows) s
    → s ≡ with_rows r rows

-- ---- what is written of a table

-- the prefixes that the lines of a text host
abbrev pub prefixes_in : List (List ℕ) → List (List ℕ)
prefixes_in texts = flat_map (λ line. prefix_named (fields_of line)) texts

-- The text has the lines that say no value, and those of the rows with these prefixes.
pub record IsWritten (texts prefixes : List (List ℕ)) (t : Table) (out : List ℕ) : Type 0 where
  pub authorities : List (List ℕ)
  pub all : AreAmong (codes "0.na" ∷ prefixes) authorities
  pub text : out ≡ text_of (written_lines texts (rows_in prefixes authorities t))
  pub rows : AllByRecursion IsWritableRow (rows_in prefixes authorities t)

-- The text that was given says a register. The text that was written says the same publishers, prefixes and site information, and the rows of the
-- table with these prefixes, under all of their authorities.
pub record IsExport (texts : List (List ℕ)) (t : Table) (out : List ℕ) : Type 0 where
  pub register : Register
  pub given : IsAccepted texts register
  pub authorities : List (List ℕ)
  pub all : AreAmong (codes "0.na" ∷ prefixes_of register.hostings) authorities
  pub written : IsAccepted (lines out) (with_rows register (rows_in (prefixes_of register.hostings) authorities t))

-- ---- what is written of one publisher

-- the prefixes that the lines of a text give to the publisher of this name
abbrev pub prefixes_for : List ℕ → List (List ℕ) → List (List ℕ)
prefixes_for name texts = flat_map (λ line. prefix_given name (fields_of line)) texts

-- what the rows refer to that a text says, and nothing else
pub record HasCover (texts : List (List ℕ)) (places : List Place) : Type 0 where
  pub register : Register
  pub read : IsAccepted texts register
  pub covered : EachCovered places (map (λ row. row.1) register.opening)
  pub referred : AreReferred (map (λ row. row.1) register.opening) places

-- The text that was given says a register. The text that was written says the same publishers, prefixes and site information, the rows of the table
-- with the prefixes of this publisher, and of the rows with other prefixes those at the places of a cover: all that its rows refer to, and all that the
-- lists there refer to, and no other place.
pub record IsPublisherExport (texts : List (List ℕ)) (name : List ℕ) (t : Table) (out : List ℕ) : Type 0 where
  pub register : Register
  pub given : IsAccepted texts register
  pub authorities : List (List ℕ)
  pub all : AreAmong (codes "0.na" ∷ prefixes_for name texts) authorities
  pub cover : List Place
  pub rows : EachCovered cover (map (λ row. row.1) (rows_in (prefixes_for name texts) authorities t))
  pub onward : IsOnward t cover
  pub least : IsLeast t (map (λ row. row.1) (rows_in (prefixes_for name texts) authorities t)) cover
  pub written : IsAccepted (lines out) (with_rows register (rows_in (prefixes_for name texts) authorities t ++ foreign_rows (prefixes_for name texts) t cover))

-- ---- what a moved publisher has

-- The table is one that the service makes: values stand at handles that are there, in canonical form, each at its own index. A text says each
-- handle with one of these prefixes: it has a value, and a line can name it.
pub record IsExpressible (prefixes : List (List ℕ)) (t : Table) : Type 0 where
  pub placed : IsPlaced t
  pub canonical : (h : List ℕ) → has t h ≡ true → canonical h ≡ h
  pub indexed : (p : Place) (v : Value) → at t p ≡ Some v → v.index ≡ p.index
  pub named : (h : List ℕ) → has t h ≡ true → IsTrue (is_among (prefix h) prefixes) → IsTrue (is_expressible h)
  pub valued : (h : List ℕ) → has t h ≡ true → IsTrue (is_among (prefix h) prefixes) → (i : ℕ) × (v : Value) × (at t (table.place h i) ≡ Some v)

-- Over the table of the second text a publisher has what it had. Both texts say the same lanes, prefixes and site information; the places are a cover for it at the
-- start, in both tables; and what it has of the world, with the values at the cover, is what it has of the world with the table that the second text opens.
pub record IsMoved (w : World) (u : ℕ) (cover : List Place) (old new : Register) : Type 0 where
  pub publishers : new.publishers ≡ old.publishers
  pub hostings : new.hostings ≡ old.hostings
  pub sites : new.sites ≡ old.sites
  pub closed : IsClosed (hosts w.site u) cover w.table
  pub closed_there : IsClosed (hosts w.site u) cover (opening_table new.opening)
  pub same : restrict w u cover ≡ restrict (with_table w (opening_table new.opening)) u cover

-- A publisher's export moves the publisher of its name, in each world with the table that was exported and the prefixes of the text that was given.
abbrev pub PublisherMoves : Type 0
PublisherMoves =
    (texts : List (List ℕ)) (name : List ℕ) (t : Table) (out : List ℕ) (x : IsPublisherExport texts name t out) (s : Register) → IsAccepted (lines out) s → IsExpressible (prefixes_for name texts) t
    → (w : World) → w.table ≡ t → w.site.hostings ≡ x.register.hostings → IsMoved w (place_of name x.register.publishers) x.cover x.register s

-- A publisher that moved is answered alike: runs from the world as it was and with the table of the second text give it equal outcomes, where its
-- events are the same, nobody else changes its rows or what stands at the cover, and it writes no reference beyond the cover.
abbrev pub MovedIsAnsweredAlike : Type 0
MovedIsAnsweredAlike =
    (w : World) (u : ℕ) (cover : List Place) (old new : Register) (ts ts' : List Turn) → IsMoved w u cover old new → HostsNoRoot w.site
    → IsRun w ts → IsRun (with_table w (opening_table new.opening)) ts' → EachCovered cover (own_writes w.site u ts) → EachCovered cover (own_writes w.site u ts')
    → IsQuiet w.site u cover w ts → IsQuiet w.site u cover (with_table w (opening_table new.opening)) ts' → events (turns_of w.site u ts) ≡ events (turns_of w.site u ts')
    → outcomes (turns_of w.site u ts) ≡ outcomes (turns_of w.site u ts')
