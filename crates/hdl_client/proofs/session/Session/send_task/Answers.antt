use Rattle.std.proofs.Common.{◌≡◌, List, [], ◌∷◌, ◌++◌, refl, sym, subst, rules}
use Rattle.hdl_client.specs.declared.batch.PendingRequest.{PendingRequest}
use Rattle.hdl_client.specs.Batch.{AreApart}
use Rattle.hdl_client.proofs.Apart.{apart_more}
use Rattle.hdl_client.proofs.session.Session.send_task.Goals as goal

pub returns : goal.returns
returns g c =
    let in_flight : List PendingRequest = c.args.in_flight.now.items in
    let pending : PendingRequest = record { task = c.args.task; request = c.in_ok-request.request; is_answer = c.args.is_answer } in
    let more : c.push.new.self.items ≡ in_flight ++ pending ∷ [] = search rules in
    record {
      apart = subst AreApart (sym more) (apart_more in_flight pending c.requires.apart c.requires.free);
      launched = record { pending = pending; own = refl; kind = refl; joined = more; sent = search rules; received = search rules };
    }
