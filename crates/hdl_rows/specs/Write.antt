-- The writes of a table, one by one: the effect of each, and its conditions.
use Rattle.std.specs.Prelude.{ℕ, List, true, false, ◌≡◌}
use Rattle.hdl_value.specs.declared.value.Value.{Value}
use Rattle.hdl_rows.specs.Table.{Table, has, with_new_handle, with_values, without_values, without_handle, AreDistinct, AreAbsent, ArePresent, indexes}

pub data Write : Type 0 where
  Create : List ℕ → List Value → Write
  Add : List ℕ → List Value → Write
  Modify : List ℕ → List Value → Write
  Remove : List ℕ → List ℕ → Write
  Delete : List ℕ → Write

abbrev pub handle_of : Write → List ℕ
handle_of (Create h vs) = h
handle_of (Add h vs) = h
handle_of (Modify h vs) = h
handle_of (Remove h is) = h
handle_of (Delete h) = h

-- the table after the write
abbrev pub after_write : Table → Write → Table
after_write t (Create h vs) = with_new_handle t h vs
after_write t (Add h vs) = with_values t h vs
after_write t (Modify h vs) = with_values t h vs
after_write t (Remove h is) = without_values t h is
after_write t (Delete h) = without_handle t h

-- the conditions of the write
abbrev pub CanWrite : Table → Write → Type 0
CanWrite t (Create h vs) = (has t h ≡ false) × AreDistinct (indexes vs)
CanWrite t (Add h vs) = (has t h ≡ true) × AreDistinct (indexes vs) × AreAbsent t h (indexes vs)
CanWrite t (Modify h vs) = (has t h ≡ true) × AreDistinct (indexes vs) × ArePresent t h (indexes vs)
CanWrite t (Remove h is) = (has t h ≡ true) × AreDistinct is × ArePresent t h is
CanWrite t (Delete h) = has t h ≡ true
