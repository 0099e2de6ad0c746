use Rattle.std.proofs.Common.{ℕ, List, map, ap, ◌∙◌}
use Rattle.std.specs.Char.{to_ascii_lowercase}
use Rattle.hdl_value.specs.Place.{same_handle}
use Rattle.hdl_rows.proofs.ShelfLemmas.{same_test}
use Rattle.hdl_rows.proofs.row_store.is_of.Goals as goal

pub returns : goal.returns
returns c =
    same_test _ _ _ c.lowers_to.ensures ∙ ap (λ (front : List ℕ). same_handle (map to_ascii_lowercase front) c.args.prefix.now) c.front_of.ensures
