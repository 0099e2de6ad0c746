-- The laws of `src/laws.rt`. The journal begins as `journal`, and the table as `table`.
use Rattle.std.specs.Prelude.{◌≡◌, List, [], ◌∷◌, ◌++◌, length}
use Rattle.hdl_rows.specs.Table.{Table}
use Rattle.hdl_rows.specs.Write.{Write}
use Rattle.hdl_journal.specs.Journal.{Put, after_put, after_puts, Begins, after_writes, AreAllowed, AreDecided}

-- put the write behind all that is known
abbrev pub put_behind : List Write → Write → Put
put_behind known write = record { behind = length known; write = write }

-- the journal is a beginning of what it becomes
abbrev pub OnlyGrows : Type 0
OnlyGrows = (journal : List Write) (puts : List Put) → Begins journal (after_puts journal puts)

-- the write comes while just what the server knew stands there: then that and the write begin all that the journal becomes
abbrev pub StandsBehind : Type 0
StandsBehind =
    (journal known : List Write) (before after : List Put) (write : Write) → Begins known (after_puts journal before) → length (after_puts journal before) ≡ length known
    → Begins (known ++ write ∷ []) (after_puts journal (before ++ put_behind known write ∷ after))

-- the put was made, others came since, and it comes again
abbrev pub MadeOnce : Type 0
MadeOnce =
    (journal : List Write) (put : Put) (since : List Put) → length journal ≡ put.behind
    → after_put (after_puts (after_put journal put) since) put ≡ after_puts (after_put journal put) since

-- puts that were decided on keep each write allowed
abbrev pub AllowedStays : Type 0
AllowedStays = (table : Table) (journal : List Write) (puts : List Put) → AreAllowed table journal → AreDecided table journal puts → AreAllowed table (after_puts journal puts)

-- what stands after the first puts begins what stands after the later ones too
abbrev pub OneIsEarlier : Type 0
OneIsEarlier = (journal : List Write) (first later : List Put) → Begins (after_puts journal first) (after_puts journal (first ++ later))

-- two beginnings of one journal that are equally long are equal
abbrev pub OneAtEachNumber : Type 0
OneAtEachNumber = (journal known known' : List Write) → Begins known journal → Begins known' journal → length known ≡ length known' → known ≡ known'

-- the writes of two lists are made one list after the other
abbrev pub TablesFollow : Type 0
TablesFollow = (table : Table) (first later : List Write) → after_writes table (first ++ later) ≡ after_writes (after_writes table first) later
