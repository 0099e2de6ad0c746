use Rattle.std.proofs.Common.{◌≡◌, ◌≤◌, ◌-◌, ◌++◌, ℕ, List, length, take, drop, arith}
use Rattle.std.proofs.lemmas.Grind.{common_steps}
use Rattle.std.proofs.KnownBytes.{Appends-trans}
use Rattle.hdl_programs.proofs.output.put_all.Goals as goal

-- what is left after n octets, as the slice `rest[n..]` is seen
split_rest : (done rest all : List ℕ) (n : ℕ) → n ≤ length rest → done ++ rest ≡ all → (done ++ take n rest) ++ take (length rest - n) (drop n rest) ≡ all
split_rest done rest all n h e = grind (arith, common_steps)

pub loop-rest-preserved : goal.loop-rest-preserved
loop-rest-preserved g c =
    let inv = c.loop-rest.invariant in (
      inv.0 ++ take c.in-Ok.count c.loop-rest.rest.now,
      split_rest inv.0 c.loop-rest.rest.now _ c.in-Ok.count (omega (arith, c.in-Ok.ensures.bound)) inv.1,
      Appends-trans _ _ _ _ _ inv.2 c.in-Ok.ensures.bytes,
    )
