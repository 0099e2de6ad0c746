-- The service as a world: its lanes by their numbers.
use Rattle.std.specs.Prelude.{ℕ, List, [], ◌∷◌, Bool, ◌+◌, map}
use Rattle.std.specs.Ordering.{nat_cmp}
use Rattle.std.specs.FinMap as map
use Rattle.hdl_rows.specs.Table.{Table}
use Rattle.hdl_tenants.specs.Register.{Register}
use Rattle.hdl_laws.specs.Worlds.{World}
use Rattle.hdl_core.specs.Held.{Held}

-- the entries of a list by their places
abbrev pub with_numbers : {X : Type 0} → ℕ → List X → List (ℕ × X)
with_numbers n [] = []
with_numbers n (x ∷ xs) = (n, x) ∷ with_numbers (n + 1) xs

abbrev pub by_place : {X : Type 0} → List X → map.FinMap nat_cmp X
by_place xs = map.from_entries (with_numbers 0 xs)

-- the world of these publishers and prefixes, which takes changes or doesn't, and of these lanes and table
unfoldable pub world_of : Register → Bool → List Held → Table → World
world_of register takes_changes lanes table = record {
  site = record {
    owners = by_place (map (λ lane. lane.publisher) lanes);
    hostings = register.hostings;
    layouts = by_place (map (λ publisher. publisher.wire) register.publishers);
    sites = register.sites;
    takes_changes = takes_changes;
  };
  table = table;
  lanes = by_place (map (λ lane. lane.state) lanes);
}
