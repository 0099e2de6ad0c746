-- What a call leaves between a table in memory and its file, and what it counts.
use Rattle.std.proofs.Common.{◌≡◌, ◌∙◌, inr, ℕ, ◌+◌, min, Some, Option, Result, Ok, Err, OnOk, OnErr, MatchResult, sym, ap, subst, arith}
use Rattle.std.specs.Prelude.{unwrap_or}
use Rattle.hdl_rows.specs.Table.{Table, refusals_after, most}
use Rattle.hdl_rows.specs.Write.{Write, CanWrite, after_write}
use Rattle.hdl_rows.proofs.Writes.{stay_placed_lem}
use Rattle.hdl_durablerows.specs.Durable.{Durable, Standing, Keeps}
use Rattle.hdl_durablerows.specs.Pending.{IsBacking, OwesAfter, owed_by, ahead_by, standing}
use Rattle.hdl_durablerows.specs.Writes.{write_in}
use Rattle.hdl_durablerows.specs.declared.pending.Pending.{Pending}
use Rattle.hdl_durablerows.specs.declared.pending.Pending.TheVariants.{Nothing, Begun, Ahead, Undoing, Unknown, UndoUnknown}

same_write : (v w : Write) → Some v ≡ Some w → v ≡ w
same_write v w is = ap (λ (o : Option Write). unwrap_or o v) is

-- the file has the write
file_ahead : (stands : Standing → Type 0) (t : Table) (p : Pending) (w : Write) → ahead_by p ≡ Some w → stands (standing t p) → stands (Keeps (after_write t w))
file_ahead stands t Nothing w is h = absurd cc
file_ahead stands t (Begun own) w is h = absurd cc
file_ahead stands t (Ahead own) w is h = subst (λ v. stands (Keeps (after_write t v))) (same_write (write_in own) w is) h
file_ahead stands t (Undoing own undo) w is h = absurd cc
file_ahead stands t (Unknown own) w is h = absurd cc
file_ahead stands t (UndoUnknown own undo) w is h = absurd cc

ahead_is_owed : (p : Pending) (w : Write) → ahead_by p ≡ Some w → owed_by p ≡ Some w
ahead_is_owed Nothing w is = absurd cc
ahead_is_owed (Begun own) w is = absurd cc
ahead_is_owed (Ahead own) w is = is
ahead_is_owed (Undoing own undo) w is = absurd cc
ahead_is_owed (Unknown own) w is = absurd cc
ahead_is_owed (UndoUnknown own undo) w is = absurd cc

-- the file has the write of the call, and memory has it too or has refused it
module _ {E : Type 0} (p q : Pending) (w : Write) (ahead : ahead_by p ≡ Some w) where
  pub settled : (r : Result (Unit {0}) E) (stands : Standing → Type 0) (t u : Table) → IsBacking stands t p → CanWrite t w → OnOk r (u ≡ after_write t w) → OnErr r (u ≡ t) → MatchResult r (λ _. q ≡ Nothing) (λ _. q ≡ p) → IsBacking stands u q
  settled (Ok x) stands t u h can done undone is =
      subst (λ v. IsBacking stands v q) (sym done) (subst (λ o. IsBacking stands (after_write t w) o) (sym is) (record { placed = stay_placed_lem t w h.placed can; allowed = tt; file = file_ahead stands t p w ahead h.file }))
  settled (Err e) stands t u h can done undone is = subst (λ v. IsBacking stands v q) (sym undone) (subst (λ o. IsBacking stands t o) (sym is) h)

  pub owes_after : (r : Result (Unit {0}) E) (old : Option Write) → MatchResult r (λ _. q ≡ Nothing) (λ _. q ≡ p) → OwesAfter r old w (owed_by q)
  owes_after (Ok x) old is = ap owed_by is
  owes_after (Err e) old is = inr (inr (ap owed_by is ∙ ahead_is_owed p w ahead))

-- what a write asks of the table that a caller sees
pub can_seen : {F : Type 0} (inside seen : Durable F) (w : Write) → inside ≡ seen → CanWrite seen.table w → CanWrite inside.table w
can_seen {F} inside seen w is can = subst (λ (l : Durable F). CanWrite l.table w) (sym is) can

-- ---- counts

pub count_read : (a b r : ℕ) → b ≡ min (a + 1) most → min (b + r) most ≡ min (min (a + r) most + 1) most
count_read a b r is = omega (arith, is)

pub count_call : (a r : ℕ) → min (a + min (r + 1) most) most ≡ min (min (a + r) most + 1) most
count_call a r = omega arith

pub count_done : {X E : Type 0} (done : Result X E) (a b r n : ℕ) → min (a + r) most ≡ n → b ≡ refusals_after done a → min (b + r) most ≡ refusals_after done n
count_done (Ok x) a b r n is same = ap (λ c. min (c + r) most) same ∙ is
count_done (Err e) a b r n is same = count_read a b r same ∙ ap (λ m. min (m + 1) most) is
