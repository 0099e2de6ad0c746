-- A write leaves a table as it was beside its handle.
use Rattle.std.proofs.Common.{◌≡◌, Result, Ok, Err, OnOk, OnErr, sym, subst}
use Rattle.hdl_rows.specs.Table.{Table}
use Rattle.hdl_rows.specs.Write.{Write, handle_of, after_write}
use Rattle.hdl_rows.proofs.Writes.{other_handles_stay_lem}
use Rattle.hdl_reach.specs.Search.{AgreeBeside}
use Rattle.hdl_cache.specs.Truth.{AreTrue, IsLast}
use Rattle.hdl_cache.specs.declared.last.LastMask.{LastMask}
use Rattle.hdl_cache.specs.declared.searches.MasksAndSearches.{MasksAndSearches}

beside_write : (t : Table) (w : Write) → AgreeBeside (handle_of w) t (after_write t w)
beside_write t w g other = let stays = other_handles_stay_lem t w g other in ((λ i. sym (stays.1 i)), sym stays.2)

beside_of : (w : Write) (t u : Table) → u ≡ after_write t w → AgreeBeside (handle_of w) t u
beside_of w t u done = subst (AgreeBeside (handle_of w) t) (sym done) (beside_write t w)

-- what is kept behind a write that was done is its table's, and so is all that was kept behind one that was refused
pub still_true : {X E : Type 0} (r : Result X E) (w : Write) (t u : Table) (a b : MasksAndSearches) → OnOk r (u ≡ after_write t w) → OnErr r (u ≡ t) → OnOk r ((t u : Table) → AgreeBeside (handle_of w) t u → AreTrue t a → AreTrue u b) → OnErr r (b ≡ a) → AreTrue t a → AreTrue u b
still_true (Ok x) w t u a b done undone forgotten kept h = forgotten t u (beside_of w t u done) h
still_true (Err e) w t u a b done undone forgotten kept h = subst (λ v. AreTrue v b) (sym undone) (subst (AreTrue t) (sym kept) h)

-- the mask that was found last is forgotten behind a write that was done, and stays behind one that was refused
pub last_true : {X E : Type 0} (r : Result X E) (t u : Table) (a b : LastMask) → OnErr r (u ≡ t) → OnOk r ((v : Table) → IsLast v b) → OnErr r (b ≡ a) → IsLast t a → IsLast u b
last_true (Ok x) t u a b undone forgotten kept h = forgotten u
last_true (Err e) t u a b undone forgotten kept h = subst (λ v. IsLast v b) (sym undone) (subst (IsLast t) (sym kept) h)
