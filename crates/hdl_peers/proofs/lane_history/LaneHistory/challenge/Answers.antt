use Rattle.std.proofs.Common.{◌≡◌, ◌∙◌, List, ap, eqb, not, filter, rules}
use Rattle.std.proofs.lemmas.Bool.{eq-eqb}
use Rattle.arrayvec.proofs.ArrayVecLemmas.{filter-from_retain}
use Rattle.hdl_peers.specs.declared.kept.SentChallenge.{SentChallenge}
use Rattle.hdl_peers.specs.Followed.{put_behind}
use Rattle.hdl_peers.proofs.lane_history.LaneHistory.challenge.Goals as goal

pub returns-then-code-eq-CHALLENGE-clause-challenges : goal.returns-then-code-eq-CHALLENGE-clause-challenges
returns-then-code-eq-CHALLENGE-clause-challenges c =
    let newest : SentChallenge = record { number = c.args.number; session = c.args.session } in
    let left : c.retain.new.self.items ≡ filter (λ (s : SentChallenge). not (eqb s.session c.args.session)) c.args.self.now.challenges.items =
    filter-from_retain _ _ _ (λ x b f' y called. search rules) _ _ c.retain.ensures.filtered in
    rw (eq-eqb c.args.code 402 c.if-code-eq-CHALLENGE.true) (c.put.ensures.put ∙ ap (λ (t : List SentChallenge). put_behind 8 t newest) left)
