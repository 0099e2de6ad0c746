use Rattle.std.proofs.Common.{◌≡◌, ◌<◌, ◌∙◌, ℕ, ◌+◌, List, [], ◌∷◌, ◌++◌, length, get_or, take, false, ap, sym, subst, rules}
use Rattle.std.proofs.lemmas.List.{take_more, take_all}
use Rattle.hdl_client.specs.Outcomes.{Run, IsRun, IsSentFor, GoesOn}
use Rattle.hdl_client.specs.declared.challenge.Key.{Key}
use Rattle.hdl_client.specs.declared.task.Task.{Task}
use Rattle.hdl_client.proofs.Told.{nothing_yet, asked_next}
use Rattle.hdl_client.proofs.session.Session.run_batch.Goals as goal

pub loop-place-init : goal.loop-place-init
loop-place-init g c =
    let keys : List Key = c.args.batch.now.keys.items in
    let run : Run = record { sent = []; came = []; told = [] } in
    let none : c.in_ok-in_flight.in_flight.items ≡ [] = search rules in
    let nothing : IsRun g.S.Transport g.O.Outcomes.notes keys c.args.self.now.stream c.args.outcomes.now [] run c.args.self.now.stream c.args.outcomes.now [] = nothing_yet g.S.Transport g.O.Outcomes.notes keys c.args.self.now.stream c.args.outcomes.now in
    (search rules, (run, subst (IsRun g.S.Transport g.O.Outcomes.notes keys c.args.self.now.stream c.args.outcomes.now [] run c.args.self.now.stream c.args.outcomes.now) (sym none) nothing))

pub loop-place-preserved : goal.loop-place-preserved
loop-place-preserved g c =
    let tasks : List Task = c.args.batch.now.tasks.items in
    let keys : List Key = c.args.batch.now.keys.items in
    let place : ℕ = c.loop-place.place in
    let task : Task = c.index-task.result.now in
    let there : place < length tasks = search rules in
    let at : task ≡ get_or tasks place task = search rules in
    let before = c.loop-place.invariant.1 in
    let same : c.deref.result.now ≡ keys = search rules in
    let goes : GoesOn g.S.Transport g.O.Outcomes.notes keys c.loop-place.self.stream c.loop-place.outcomes c.loop-place.in_flight.items c.wait_for_room.new.self.stream c.wait_for_room.new.outcomes c.wait_for_room.new.in_flight.items = subst (λ (k : List Key). GoesOn g.S.Transport g.O.Outcomes.notes k c.loop-place.self.stream c.loop-place.outcomes c.loop-place.in_flight.items c.wait_for_room.new.self.stream c.wait_for_room.new.outcomes c.wait_for_room.new.in_flight.items) same c.in_ok-wait_for_room.ensures.goes_on in
    let mid = goes c.args.self.now.stream c.args.outcomes.now (take place tasks) before.0 before.1 in
    let text : c.octets.result.now ≡ task.request.octets = search rules in
    let launched : IsSentFor g.S.Transport c.wait_for_room.new.self.stream c.wait_for_room.new.in_flight.items task 0 task.request.octets false c.send_task.new.self.stream c.send_task.new.in_flight.items = subst (λ (m : List ℕ). IsSentFor g.S.Transport c.wait_for_room.new.self.stream c.wait_for_room.new.in_flight.items task 0 m false c.send_task.new.self.stream c.send_task.new.in_flight.items) text c.in_ok-send_task.ensures.launched in
    let after = asked_next g.S.Transport g.O.Outcomes.notes keys c.args.self.now.stream c.args.outcomes.now (take place tasks) mid.0 c.wait_for_room.new.self.stream c.send_task.new.self.stream c.wait_for_room.new.outcomes c.wait_for_room.new.in_flight.items c.send_task.new.in_flight.items task mid.1 launched in
    let longer : take place tasks ++ task ∷ [] ≡ take (place + 1) tasks = ap (λ (t : Task). take place tasks ++ t ∷ []) at ∙ sym (take_more tasks place task there) in
    (c.in_ok-send_task.ensures.apart, (after.0, subst (λ (l : List Task). IsRun g.S.Transport g.O.Outcomes.notes keys c.args.self.now.stream c.args.outcomes.now l after.0 c.send_task.new.self.stream c.wait_for_room.new.outcomes c.send_task.new.in_flight.items) longer after.1))

pub returns : goal.returns
returns g c =
    let tasks : List Task = c.args.batch.now.tasks.items in
    let keys : List Key = c.args.batch.now.keys.items in
    let all : take c.loop-place.place tasks ≡ tasks = take_all c.loop-place.place tasks (search rules) in
    let before = c.loop-place.invariant.1 in
    let asked : IsRun g.S.Transport g.O.Outcomes.notes keys c.args.self.now.stream c.args.outcomes.now tasks before.0 c.loop-place.self.stream c.loop-place.outcomes c.loop-place.in_flight.items =
    subst (λ (l : List Task). IsRun g.S.Transport g.O.Outcomes.notes keys c.args.self.now.stream c.args.outcomes.now l before.0 c.loop-place.self.stream c.loop-place.outcomes c.loop-place.in_flight.items) all before.1 in
    let same : c.deref-2.result.now ≡ keys = search rules in
    let goes : GoesOn g.S.Transport g.O.Outcomes.notes keys c.loop-place.self.stream c.loop-place.outcomes c.loop-place.in_flight.items c.receive_all.new.self.stream c.receive_all.new.outcomes c.receive_all.new.in_flight.items = subst (λ (k : List Key). GoesOn g.S.Transport g.O.Outcomes.notes k c.loop-place.self.stream c.loop-place.outcomes c.loop-place.in_flight.items c.receive_all.new.self.stream c.receive_all.new.outcomes c.receive_all.new.in_flight.items) same c.in_ok-receive_all.ensures.goes_on in
    let after = goes c.args.self.now.stream c.args.outcomes.now tasks before.0 asked in
    record { whole = (after.0, subst (IsRun g.S.Transport g.O.Outcomes.notes keys c.args.self.now.stream c.args.outcomes.now tasks after.0 c.receive_all.new.self.stream c.receive_all.new.outcomes) c.in_ok-receive_all.ensures.none after.1) }
