-- What a write leaves of a table whose writes stand in a journal.
use Rattle.std.proofs.Common.{◌≡◌, inl, inr, false, List, [], ◌∷◌, ◌++◌, Option, None, Some, refl, sym, ap, ◌∙◌}
use Rattle.hdl_rows.specs.Table.{Table, no_rows}
use Rattle.hdl_rows.specs.Write.{Write, after_write}
use Rattle.hdl_journal.specs.Journal.{after_writes}
use Rattle.hdl_durablerows.specs.Durable.{left_by, IsNear}
use Rattle.hdl_durablerows.specs.Pending.{owed_by, is_unknown, standing}
use Rattle.hdl_durablerows.specs.declared.pending.Pending.{Pending}
use Rattle.hdl_durablerows.specs.declared.pending.Pending.TheVariants as pending
use Rattle.hdl_durablerows.specs.declared.durable_file.WriteState.{WriteState}
use Rattle.hdl_durablerows.specs.declared.durable_file.WriteState.TheVariants.{Made, Refused, Unknown, UnderWay}
use Rattle.hdl_journalrows.specs.Told.{IsOfTold, Tells}

one_more : (t : Table) (ws : List Write) (w : Write) → after_writes t (ws ++ w ∷ []) ≡ after_write (after_writes t ws) w
one_more t [] w = refl
one_more t (v ∷ ws) w = one_more (after_write t v) ws w

same : (told now : List Write) (t : Table) → t ≡ after_writes no_rows told → now ≡ told → t ≡ after_writes no_rows now
same told now t is e = is ∙ sym (ap (λ ws. after_writes no_rows ws) e)

pub leaves : (told now : List Write) (t : Table) (w : Write) (m : WriteState) → t ≡ after_writes no_rows told → Tells m told now w → IsOfTold now (left_by t w m)
leaves told now t w Made is e = ap (λ u. after_write u w) is ∙ sym (ap (λ ws. after_writes no_rows ws) e ∙ one_more no_rows told w)
leaves told now t w Refused is e = same told now t is e
leaves told now t w Unknown is e = absurd e
leaves told now t w UnderWay is e = same told now t is e

pub near : (told : List Write) (t : Table) (p : Pending) → IsOfTold told (standing t p) → IsNear t (owed_by p) (after_writes no_rows told)
near told t pending.Nothing is = sym is
near told t (pending.Begun own) is = inl (sym is)
near told t (pending.Ahead own) is = inr (sym is)
near told t (pending.Undoing own undo) is = inr (sym is)
near told t (pending.Unknown own) is = absurd is
near told t (pending.UndoUnknown own undo) is = absurd is

pub not_shut : (told : List Write) (t : Table) (p : Pending) → IsOfTold told (standing t p) → is_unknown p ≡ false
not_shut told t pending.Nothing is = refl
not_shut told t (pending.Begun own) is = refl
not_shut told t (pending.Ahead own) is = refl
not_shut told t (pending.Undoing own undo) is = refl
not_shut told t (pending.Unknown own) is = absurd is
not_shut told t (pending.UndoUnknown own undo) is = absurd is

pub exact : (told : List Write) (t : Table) (owed : Option Write) → IsNear t owed (after_writes no_rows told) → owed ≡ None → t ≡ after_writes no_rows told
exact told t None is e = sym is
exact told t (Some w) is e = absurd cc
