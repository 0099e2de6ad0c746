-- A journal: a list of writes that is changed by puts alone.
use Rattle.std.specs.Prelude.{◌≡◌, ℕ, List, [], ◌∷◌, ◌++◌, length, ◌==◌, if◌then◌else◌, ⊤}
use Rattle.hdl_rows.specs.Table.{Table}
use Rattle.hdl_rows.specs.Write.{Write, CanWrite, after_write}

-- put this write behind so many
pub record Put : Type 0 where
  pub behind : ℕ
  pub write : Write

-- the journal after a put: if just so many stand there the write comes behind them, otherwise nothing changes
abbrev pub after_put : List Write → Put → List Write
after_put journal put = if length journal == put.behind then journal ++ put.write ∷ [] else journal

abbrev pub after_puts : List Write → List Put → List Write
after_puts journal [] = journal
after_puts journal (put ∷ puts) = after_puts (after_put journal put) puts

-- the one list is a beginning of the other
abbrev pub Begins : List Write → List Write → Type 0
Begins beginning whole = (rest : List Write) × (whole ≡ beginning ++ rest)

-- the table after the writes, one after the other
abbrev pub after_writes : Table → List Write → Table
after_writes table [] = table
after_writes table (write ∷ writes) = after_writes (after_write table write) writes

-- each write is allowed by the table that those before it make
abbrev pub AreAllowed : Table → List Write → Type 0
AreAllowed table [] = ⊤
AreAllowed table (write ∷ writes) = CanWrite table write × AreAllowed (after_write table write) writes

-- A server decided on the put: it knew a beginning of the journal, puts its write behind that, and the table of what it knew allows the write.
pub record IsDecided (table : Table) (journal : List Write) (put : Put) : Type 0 where
  pub known : List Write
  pub begins : Begins known journal
  pub behind : put.behind ≡ length known
  pub allowed : CanWrite (after_writes table known) put.write

-- each put was decided on by the time that it came
abbrev pub AreDecided : Table → List Write → List Put → Type 0
AreDecided table journal [] = ⊤
AreDecided table journal (put ∷ puts) = IsDecided table journal put × AreDecided table (after_put journal put) puts
