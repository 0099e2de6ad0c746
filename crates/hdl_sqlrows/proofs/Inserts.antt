-- What the three INSERTs write.
use Rattle.std.proofs.Common.{inl, inr, ◌≡◌, ℕ, ℤ, pos, List, [], ◌∷◌, Bool, true, false, cond, not, ◌&&◌, None, Ok, refl, sym, ap, subst, ◌∙◌, arith}
use Rattle.sqlite_value.specs.declared.value.Value.{Value}
use Rattle.sqlite_value.specs.declared.value.Value.TheVariants.{Null, Int, Blob}
use Rattle.sqlite_value.specs.Order.{Row}
use Rattle.sqlite_trees.specs.Tree.{Trees, put_row}
use Rattle.sqlite_sql.specs.Ops.{unary}
use Rattle.sqlite_schema.specs.declared.schema.Kind.TheVariants.{Integer}
use Rattle.sqlite_schema.specs.declared.command.Source.TheVariants.{Values}
use Rattle.sqlite_schema.specs.declared.command.Command.TheVariants.{Insert}
use Rattle.sqlite_rules.specs.declared.error.Rowids.TheVariants.{Chosen}
use Rattle.sqlite_rules.specs.Edit.{edit_of, next_rowid, is_taken, with_rowid, Applies}
use Rattle.sqlite_rules.specs.Cast.{cast, cast_row}
use Rattle.sqlite_schema.specs.declared.schema.Keys.{Keys}
use Rattle.sqlite.specs.Effect.{Database}
use Rattle.sqlite.specs.Does.{Tally, Does}
use Rattle.sqlite.specs.Rows.{Written, Edited}
use Rattle.sqlite.specs.Listing.{understood}
use Rattle.sqlite.specs.State.{State, mode_of, Executes}
use Rattle.sqlite.proofs.Callers.{runs_as, statement_of, one_step}
use Rattle.hdl_sqlrows.specs.Layout.{layout, handles, entries, opened_table}
use Rattle.hdl_sqlrows.proofs.Texts.{insert_handle, insert_entry, insert_opened, handle_terms, entry_terms, opened_terms, insert_handle_is, insert_entry_is, insert_opened_is, plain, opened_plain}
use Rattle.std.specs.Int.{w64, to_be_bytes}
use Rattle.hdl_value.specs.declared.value.Value.{Value as Kept}
use Rattle.hdl_value.specs.Spelling.{references}
use Rattle.hdl_sqlrows.proofs.Lists.{HasOneMore, put_fresh}
use Rattle.hdl_sqlrows.proofs.Parts.{went, same_value, no_index}

either : (b : Bool) (x : Value) → cond b x x ≡ x
either true x = refl
either false x = refl

cast_null : cast Integer Null ≡ Null
unfolding unary
cast_null = either _ Null

pub cast_int : (n : ℤ) → cast Integer (Int n) ≡ Int n
unfolding unary
cast_int n = either _ (Int n)

-- a row with a new rowid, and the rows with it
abbrev pub Adds : Row → List Row → List Row → Type 0
Adds row old new = (is_taken old row ≡ false) × HasOneMore row old new

-- a row of `handles`
abbrev pub handle_row : List Row → List ℕ → List ℕ → Row
handle_row rows name authority = Int (next_rowid rows) ∷ Blob name ∷ Blob authority ∷ []

abbrev handle_source : List ℕ → List ℕ → Row
handle_source name authority = Null ∷ Blob name ∷ Blob authority ∷ []

handle_news : (rows : List Row) (name authority : List ℕ) → with_rowid Chosen rows (cast_row handles (handle_source name authority)) ≡ handle_row rows name authority
handle_news rows name authority = ap (λ c. with_rowid Chosen rows (c ∷ Blob name ∷ Blob authority ∷ [])) cast_null

pub left_fresh : (taken : Bool) → (not taken && true) ≡ true → taken ≡ false
left_fresh true h = absurd cc
left_fresh false h = refl

handle_edit : (keys : Keys) (db next : Trees) (name authority : List ℕ) → Applies layout keys db (edit_of db handles [] Chosen 0 (handle_source name authority ∷ [])) next
    → Adds (handle_row (db 0) name authority) (db 0) (next 0) × (next 2 ≡ db 2) × (next 4 ≡ db 4)
handle_edit keys db next name authority made =
    let row = handle_row (db 0) name authority in
    let fresh = subst (λ r. (not (is_taken (db 0) r) && true) ≡ true) (handle_news (db 0) name authority) made.fresh in
    let rows : next 0 ≡ put_row row (db 0) = made.rows ∙ ap (λ r. put_row r (db 0)) (handle_news (db 0) name authority) in
    ((left_fresh _ fresh, subst (HasOneMore row (db 0)) (sym rows) (put_fresh row (db 0) (left_fresh _ fresh))), made.others 2 (λ e. omega (arith, e)) (no_index 2 (inr (inl refl))), made.others 4 (λ e. omega (arith, e)) (no_index 4 (inr (inr refl))))

pub inserts_handle : (old new : State) (name authority : List ℕ) (count : ℕ) → old.now.schema ≡ layout → Executes insert_handle (Blob name ∷ Blob authority ∷ []) old new (Ok count)
    → (new.now.schema ≡ layout) × Adds (handle_row (old.now.trees 0) name authority) (old.now.trees 0) (new.now.trees 0) × (new.now.trees 2 ≡ old.now.trees 2) × (new.now.trees 4 ≡ old.now.trees 4)
inserts_handle old new name authority count has h =
    let params = Blob name ∷ Blob authority ∷ [] in
    let db = old.now.trees in
    let command = Insert 0 (Values handle_terms 3) in
    let w = runs_as insert_handle params old new layout has command insert_handle_is plain.0 count h in
    let text = statement_of insert_handle (understood layout insert_handle) in
    let done = went (subst (λ s. Does old.step_limit (mode_of old) params (record old.now { schema = s }) text None command (Ok (w.tally, new.now))) has w.changed) in
    let now = ap (λ (p : Tally × Database). p.1) (same_value (went (went done.2).2).2) in
    let given = went done.1 in
    let written = went (went given.2).2 in
    let counted = went written.2 in
    let trees : done.0.trees ≡ written.0 = ap (λ (it : Written). it.trees) (same_value counted.2) ∙ same_value counted.1 in
    let keys = (mode_of old).keys in
    let edit = λ (all : List Row). edit_of db handles [] Chosen 0 all in
    let wrote = subst (λ all. Edited layout keys db (edit all) (Ok written.0)) given.1.1 written.1 in
    let made = handle_edit keys db written.0 name authority (one_step layout keys db written.0 (edit (handle_source name authority ∷ [])) refl wrote) in
    let all : new.now.trees ≡ written.0 = ap (λ (d : Database). d.trees) now ∙ trees in
    (ap (λ (d : Database). d.schema) now, subst (λ (t : Trees). Adds (handle_row (db 0) name authority) (db 0) (t 0)) (sym all) made.0, ap (λ (t : Trees). t 2) all ∙ made.1, ap (λ (t : Trees). t 4) all ∙ made.2)

-- the cells of a value at a handle, in the order of the columns, and a row of `entries`
abbrev pub entry_cells : List ℕ → Kept → Row
entry_cells name v = Blob name ∷ Int (pos v.index) ∷ Blob v.kind ∷ Blob v.bytes ∷ Blob v.ttl ∷ Int (pos v.permissions) ∷ Blob (to_be_bytes w64 v.timestamp) ∷ Blob (references v.references) ∷ []

abbrev pub entry_row : ℤ → List ℕ → Kept → Row
entry_row id name v = Int id ∷ entry_cells name v

abbrev entry_source : List ℕ → Kept → Row
entry_source name v = Null ∷ entry_cells name v

entry_news : (rows : List Row) (name : List ℕ) (v : Kept) → with_rowid Chosen rows (cast_row (record entries { tree = 2 }) (entry_source name v)) ≡ entry_row (next_rowid rows) name v
entry_news rows name v =
    (λ i. with_rowid Chosen rows (cast_null i ∷ Blob name ∷ cast_int (pos v.index) i ∷ Blob v.kind ∷ Blob v.bytes ∷ Blob v.ttl ∷ cast_int (pos v.permissions) i ∷ Blob (to_be_bytes w64 v.timestamp) ∷ Blob (references v.references) ∷ []))

entry_edit : (keys : Keys) (db next : Trees) (name : List ℕ) (v : Kept) → Applies layout keys db (edit_of db entries [] Chosen 0 (entry_source name v ∷ [])) next → Adds (entry_row (next_rowid (db 2)) name v) (db 2) (next 2) × (next 0 ≡ db 0) × (next 4 ≡ db 4)
entry_edit keys db next name v made =
    let row = entry_row (next_rowid (db 2)) name v in
    let is = entry_news (db 2) name v in
    let fresh = subst (λ r. (not (is_taken (db 2) r) && true) ≡ true) is made.fresh in
    let rows : next 2 ≡ put_row row (db 2) = made.rows ∙ ap (λ r. put_row r (db 2)) is in
    ((left_fresh _ fresh, subst (HasOneMore row (db 2)) (sym rows) (put_fresh row (db 2) (left_fresh _ fresh))), made.others 0 (λ e. omega (arith, e)) (no_index 0 (inl refl)), made.others 4 (λ e. omega (arith, e)) (no_index 4 (inr (inr refl))))

pub inserts_entry : (old new : State) (name : List ℕ) (v : Kept) (count : ℕ) → old.now.schema ≡ layout → Executes insert_entry (entry_cells name v) old new (Ok count)
    → (new.now.schema ≡ layout) × Adds (entry_row (next_rowid (old.now.trees 2)) name v) (old.now.trees 2) (new.now.trees 2) × (new.now.trees 0 ≡ old.now.trees 0) × (new.now.trees 4 ≡ old.now.trees 4)
inserts_entry old new name v count has h =
    let params = entry_cells name v in
    let db = old.now.trees in
    let command = Insert 1 (Values entry_terms 9) in
    let w = runs_as insert_entry params old new layout has command insert_entry_is plain.1 count h in
    let text = statement_of insert_entry (understood layout insert_entry) in
    let done = went (subst (λ s. Does old.step_limit (mode_of old) params (record old.now { schema = s }) text None command (Ok (w.tally, new.now))) has w.changed) in
    let now = ap (λ (p : Tally × Database). p.1) (same_value (went (went done.2).2).2) in
    let given = went done.1 in
    let written = went (went given.2).2 in
    let counted = went written.2 in
    let trees : done.0.trees ≡ written.0 = ap (λ (it : Written). it.trees) (same_value counted.2) ∙ same_value counted.1 in
    let keys = (mode_of old).keys in
    let edit = λ (all : List Row). edit_of db entries [] Chosen 0 all in
    let wrote = subst (λ all. Edited layout keys db (edit all) (Ok written.0)) given.1.1 written.1 in
    let made = entry_edit keys db written.0 name v (one_step layout keys db written.0 (edit (entry_source name v ∷ [])) refl wrote) in
    let all : new.now.trees ≡ written.0 = ap (λ (d : Database). d.trees) now ∙ trees in
    (ap (λ (d : Database). d.schema) now, subst (λ (t : Trees). Adds (entry_row (next_rowid (db 2)) name v) (db 2) (t 2)) (sym all) made.0, ap (λ (t : Trees). t 0) all ∙ made.1, ap (λ (t : Trees). t 4) all ∙ made.2)

-- a row of `opened`
abbrev pub opened_row : List Row → List ℕ → Row
opened_row rows name = Int (next_rowid rows) ∷ Blob name ∷ []

abbrev opened_source : List ℕ → Row
opened_source name = Null ∷ Blob name ∷ []

opened_news : (rows : List Row) (name : List ℕ) → with_rowid Chosen rows (cast_row (record opened_table { tree = 4 }) (opened_source name)) ≡ opened_row rows name
opened_news rows name = ap (λ c. with_rowid Chosen rows (c ∷ Blob name ∷ [])) cast_null

opened_edit : (keys : Keys) (db next : Trees) (name : List ℕ) → Applies layout keys db (edit_of db opened_table [] Chosen 0 (opened_source name ∷ [])) next
    → Adds (opened_row (db 4) name) (db 4) (next 4) × (next 0 ≡ db 0) × (next 2 ≡ db 2)
opened_edit keys db next name made =
    let row = opened_row (db 4) name in
    let is = opened_news (db 4) name in
    let fresh = subst (λ r. (not (is_taken (db 4) r) && true) ≡ true) is made.fresh in
    let rows : next 4 ≡ put_row row (db 4) = made.rows ∙ ap (λ r. put_row r (db 4)) is in
    ((left_fresh _ fresh, subst (HasOneMore row (db 4)) (sym rows) (put_fresh row (db 4) (left_fresh _ fresh))), made.others 0 (λ e. omega (arith, e)) (no_index 0 (inl refl)), made.others 2 (λ e. omega (arith, e)) (no_index 2 (inr (inl refl))))

pub inserts_opened : (old new : State) (name : List ℕ) (count : ℕ) → old.now.schema ≡ layout → Executes insert_opened (Blob name ∷ []) old new (Ok count)
    → (new.now.schema ≡ layout) × Adds (opened_row (old.now.trees 4) name) (old.now.trees 4) (new.now.trees 4) × (new.now.trees 0 ≡ old.now.trees 0) × (new.now.trees 2 ≡ old.now.trees 2)
inserts_opened old new name count has h =
    let params = Blob name ∷ [] in
    let db = old.now.trees in
    let command = Insert 2 (Values opened_terms 2) in
    let w = runs_as insert_opened params old new layout has command insert_opened_is opened_plain.0 count h in
    let text = statement_of insert_opened (understood layout insert_opened) in
    let done = went (subst (λ s. Does old.step_limit (mode_of old) params (record old.now { schema = s }) text None command (Ok (w.tally, new.now))) has w.changed) in
    let now = ap (λ (p : Tally × Database). p.1) (same_value (went (went done.2).2).2) in
    let given = went done.1 in
    let written = went (went given.2).2 in
    let counted = went written.2 in
    let trees : done.0.trees ≡ written.0 = ap (λ (it : Written). it.trees) (same_value counted.2) ∙ same_value counted.1 in
    let keys = (mode_of old).keys in
    let edit = λ (all : List Row). edit_of db opened_table [] Chosen 0 all in
    let wrote = subst (λ all. Edited layout keys db (edit all) (Ok written.0)) given.1.1 written.1 in
    let made = opened_edit keys db written.0 name (one_step layout keys db written.0 (edit (opened_source name ∷ [])) refl wrote) in
    let all : new.now.trees ≡ written.0 = ap (λ (d : Database). d.trees) now ∙ trees in
    (ap (λ (d : Database). d.schema) now, subst (λ (t : Trees). Adds (opened_row (db 4) name) (db 4) (t 4)) (sym all) made.0, ap (λ (t : Trees). t 0) all ∙ made.1, ap (λ (t : Trees). t 2) all ∙ made.2)
