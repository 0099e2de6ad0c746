-- A server that began with a later table: what it missed, and then what it did.
use Rattle.std.proofs.Common.{◌≡◌, List, [], ◌∷◌, ◌++◌, refl, sym, ap, ◌∙◌, subst}
use Rattle.hdl_laws.specs.Worlds.{World, with_table}
use Rattle.hdl_laws.specs.Steps.{Turn}
use Rattle.hdl_cluster_laws.specs.Shared.{Part, Took, TookOver, AreParts, after_parts, turns_in}
use Rattle.hdl_cluster_laws.proofs.Parts.{are_joined, turns_joined}
use Rattle.hdl_workers.specs.declared.ends.LaneEnds.{LaneEnds}
use Rattle.hdl_serve.specs.declared.news.StampedChange.{StampedChange}
use Rattle.hdl_serve.specs.Shared.{TakeOver, ServedBehind}
use Rattle.hdl_serve.proofs.Sharing.{take_joined}

are_without_turns : (w : World) (ps : List Part) → turns_in ps ≡ [] → AreParts w ps
are_without_turns w [] none = tt
are_without_turns w (Took step ∷ ps) none = let both : step ∷ turns_in ps ≡ [] = none in absurd cc
are_without_turns w (TookOver table ∷ ps) none = are_without_turns (with_table w table) ps none

pub behind_are : (w : World) (before after : List LaneEnds) (parts : List Part) (taken : List StampedChange) → ServedBehind w before after parts taken → AreParts w parts
behind_are w before after parts taken s = subst (AreParts w) (sym s.all_parts) (are_joined w s.missed s.served.parts (are_without_turns w s.missed s.no_turns) s.served.are)

pub behind_takes : (w : World) (before after : List LaneEnds) (parts : List Part) (taken : List StampedChange) → ServedBehind w before after parts taken → TakeOver w parts taken
behind_takes w before after parts taken s =
    subst (λ ps. TakeOver w ps taken) (sym s.all_parts)
    (subst (TakeOver w (s.missed ++ s.served.parts)) (sym s.all_taken) (take_joined w s.missed s.served.parts s.given s.served.changes s.took_over s.served.taken_over))

pub behind_turns : (w : World) (before after : List LaneEnds) (parts : List Part) (taken : List StampedChange) (s : ServedBehind w before after parts taken) → turns_in parts ≡ turns_in s.served.parts
behind_turns w before after parts taken s = ap turns_in s.all_parts ∙ turns_joined s.missed s.served.parts ∙ ap (λ (turns : List Turn). turns ++ turns_in s.served.parts) s.no_turns
