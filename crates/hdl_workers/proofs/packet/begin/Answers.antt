use Rattle.std.proofs.Common.{◌≡◌, ◌∙◌, ◌++◌, ◌∷◌, [], ap}
use Rattle.hdl_events.specs.declared.What.TheVariants.{Open}
use Rattle.hdl_workers.specs.declared.item.Item.TheVariants.{Event}
use Rattle.hdl_workers.specs.WorkerLane.{put_by}
use Rattle.hdl_workers.proofs.Mails.{begun}
use Rattle.hdl_workers.proofs.packet.begin.Goals as goal

pub returns-in-Some-clause-traded : goal.returns-in-Some-clause-traded
returns-in-Some-clause-traded g c = λ _ n.
    let put : put_by c.await_outcome.new.line ≡ Event Open ∷ [] = c.await_outcome.ensures.put ∙ c.open.ensures.put c.if-not-open.false ∙ ap (λ w. w ++ Event Open ∷ []) c.requires.empty.0 in
    begun _ _ c.in-Some.outcome n put (c.in-Some.ensures.taken ∙ ap (λ w. w ++ c.in-Some.outcome ∷ []) (c.open.ensures.taken ∙ c.requires.empty.1))
