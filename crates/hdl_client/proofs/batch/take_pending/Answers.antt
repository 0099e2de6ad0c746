use Rattle.std.proofs.Common.{◌≡◌, ◌<◌, All, List, length, get_or, sym, subst, rules}
use Rattle.std.specs.List.{remove}
use Rattle.hdl_client.specs.declared.batch.PendingRequest.{PendingRequest}
use Rattle.hdl_client.specs.Batch.{IsApart, AreApart}
use Rattle.hdl_client.proofs.Apart.{apart_without, taken_apart}
use Rattle.hdl_client.proofs.batch.take_pending.Goals as goal

pub returns-in-Some-clause-apart : goal.returns-in-Some-clause-apart
returns-in-Some-clause-apart c = subst AreApart (sym c.remove.ensures.items) (apart_without c.args.in_flight.now.items c.in-Some.place c.requires)

pub returns-in-Some-clause-free : goal.returns-in-Some-clause-free
returns-in-Some-clause-free c =
    let in_flight : List PendingRequest = c.args.in_flight.now.items in
    let pending : PendingRequest = c.remove.result in
    let there : c.in-Some.place < length in_flight = search rules in
    let apart : All (IsApart (get_or in_flight c.in-Some.place pending).task.now) (remove in_flight c.in-Some.place) = taken_apart in_flight c.in-Some.place pending there c.requires in
    let same : All (IsApart pending.task.now) (remove in_flight c.in-Some.place) = subst (λ (f : PendingRequest). All (IsApart f.task.now) (remove in_flight c.in-Some.place)) (sym c.remove.ensures.value) apart in
    subst (All (IsApart pending.task.now)) (sym c.remove.ensures.items) same

pub returns-in-Some-clause-taken : goal.returns-in-Some-clause-taken
returns-in-Some-clause-taken c =
    let there : c.in-Some.place < length c.args.in_flight.now.items = search rules in
    (c.in-Some.place, there, sym c.remove.ensures.value, c.remove.ensures.items)
