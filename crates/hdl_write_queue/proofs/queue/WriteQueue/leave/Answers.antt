use Rattle.std.specs.Prelude.{ℕ, List, Bool, Option}
use Rattle.std.proofs.Common.{rules, ap, ◌∙◌}
use Rattle.std.proofs.lemmas.Fn.{filter_same}
use Rattle.hdl_write_queue.specs.Waiting.{Waiting, without_lane}
use Rattle.hdl_write_queue.proofs.queue.WriteQueue.leave.Goals as goal

abbrev waiting : Option ℕ → List ℕ → Waiting
waiting owner lanes = record { lanes = lanes; owner = owner }

pub returns : goal.returns
returns c =
    ap (waiting _) (filter_same _ _ _ (λ x b f' k. search rules) _ _ c.retain.ensures.filtered)
    ∙ ap (λ (q : Waiting). waiting q.owner (without_lane q.lanes c.args.lane)) c.self.view_is
