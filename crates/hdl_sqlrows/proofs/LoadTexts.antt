-- What the texts mean that load the rows.
use Rattle.std.proofs.Common.{◌≡◌, ℕ, List, [], ◌∷◌, codes, refl, false}
use Rattle.sqlite_sql.specs.Term.{Term, col}
use Rattle.sqlite_schema.specs.declared.command.Command.TheVariants.{Select}
use Rattle.sqlite_tied.specs.Compute.{everything}
use Rattle.sqlite.specs.Listing.{understood, reads_listing}
use Rattle.sqlite.proofs.Callers.{IsPlain, command_of}
use Rattle.hdl_sqlrows.specs.Layout.{layout}
use Rattle.hdl_sqlrows.proofs.Texts.{rows_where}

abbrev pub load_handles : List ℕ
load_handles = codes "SELECT rowid, name, authority FROM handles"

abbrev pub load_entries : List ℕ
load_entries = codes "SELECT idx, kind, bytes, ttl, perm, stamp, refs, name, rowid FROM entries"

abbrev pub whole_handle : List Term
whole_handle = col 1 0 ∷ col 1 1 ∷ col 1 2 ∷ []

abbrev pub whole_entry : List Term
whole_entry = col 1 2 ∷ col 1 3 ∷ col 1 4 ∷ col 1 5 ∷ col 1 6 ∷ col 1 7 ∷ col 1 8 ∷ col 1 1 ∷ col 1 0 ∷ []

pub load_handles_is : command_of (understood layout load_handles) ≡ Select (record { lets = []; body = rows_where 0 [] whole_handle }) (codes "rowid" ∷ codes "name" ∷ codes "authority" ∷ [])
unfolding understood everything
load_handles_is = refl

pub load_entries_is : command_of (understood layout load_entries)
    ≡ Select (record { lets = []; body = rows_where 2 [] whole_entry }) (codes "idx" ∷ codes "kind" ∷ codes "bytes" ∷ codes "ttl" ∷ codes "perm" ∷ codes "stamp" ∷ codes "refs" ∷ codes "name" ∷ codes "rowid" ∷ [])
unfolding understood everything
load_entries_is = refl

pub load_plain : IsPlain (understood layout load_handles) × IsPlain (understood layout load_entries)
unfolding understood everything
load_plain = ((refl, refl), (refl, refl))

pub load_unlisted : (reads_listing layout load_handles ≡ false) × (reads_listing layout load_entries ≡ false)
unfolding understood everything
load_unlisted = (refl, refl)
