-- Parts in a row.
use Rattle.std.proofs.Common.{◌≡◌, List, [], ◌∷◌, ◌++◌, map, refl, ap}
use Rattle.hdl_laws.specs.Worlds.{World, with_table}
use Rattle.hdl_laws.specs.Steps.{Turn}
use Rattle.hdl_laws.specs.Runs.{IsRun, last}
use Rattle.hdl_cluster_laws.specs.Shared.{Part, Took, TookOver, AreParts, after_parts, turns_in}

pub are_joined : (w : World) (ps qs : List Part) → AreParts w ps → AreParts (after_parts w ps) qs → AreParts w (ps ++ qs)
are_joined w [] qs a b = b
are_joined w (Took step ∷ ps) qs a b = (a.0, are_joined step.after ps qs a.1 b)
are_joined w (TookOver table ∷ ps) qs a b = are_joined (with_table w table) ps qs a b

pub after_joined : (w : World) (ps qs : List Part) → after_parts w (ps ++ qs) ≡ after_parts (after_parts w ps) qs
after_joined w [] qs = refl
after_joined w (Took step ∷ ps) qs = after_joined step.after ps qs
after_joined w (TookOver table ∷ ps) qs = after_joined (with_table w table) ps qs

pub turns_joined : (ps qs : List Part) → turns_in (ps ++ qs) ≡ turns_in ps ++ turns_in qs
turns_joined [] qs = refl
turns_joined (Took step ∷ ps) qs = ap (λ turns. step ∷ turns) (turns_joined ps qs)
turns_joined (TookOver table ∷ ps) qs = turns_joined ps qs

-- ---- the turns of a run

pub are_turns : (w : World) (turns : List Turn) → IsRun w turns → AreParts w (map Took turns)
are_turns w [] run = tt
are_turns w (step ∷ turns) run = (run.0, are_turns step.after turns run.1)

pub after_turns : (w : World) (turns : List Turn) → after_parts w (map Took turns) ≡ last w turns
after_turns w [] = refl
after_turns w (step ∷ turns) = after_turns step.after turns

pub turns_back : (turns : List Turn) → turns_in (map Took turns) ≡ turns
turns_back [] = refl
turns_back (step ∷ turns) = ap (λ rest. step ∷ rest) (turns_back turns)
