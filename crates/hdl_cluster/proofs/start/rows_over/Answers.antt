use Rattle.std.proofs.Common.{◌≡◌, refl, sym, subst, ◌∙◌}
use Rattle.std.specs.FinMap as map
use Rattle.hdl_value.specs.Place.{place_cmp}
use Rattle.hdl_rows.specs.Table.{Table, no_rows, IsPlaced}
use Rattle.hdl_rows.proofs.Writes.{some_none}
use Rattle.hdl_cluster.proofs.start.rows_over.Goals as goal

-- a table without values has each at a handle
none_placed : (t : Table) → t ≡ no_rows → IsPlaced t
none_placed t is = subst IsPlaced (sym is) (λ p v some. absurd (some_none v (sym (sym (map.get-empty place_cmp p) ∙ some))))

pub over-requires-clause-placed : goal.over-requires-clause-placed
over-requires-clause-placed g c = none_placed c.new.result.table (rw c.new.ensures.empty refl)
