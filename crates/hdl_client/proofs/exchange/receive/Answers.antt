use Rattle.std.proofs.Common.{◌≡◌, ℕ, List, length, Option, None, rules}
use Rattle.std.proofs.lemmas.List.{with_items_is}
use Rattle.std.specs.Vec.{with_items}
use Rattle.hdl_frame.specs.Envelope.{envelope_at, fault_of, payload_len}
use Rattle.hdl_client.specs.declared.exchange.OwnedFrame.{OwnedFrame}
use Rattle.hdl_client.proofs.Frames.{takes_frame, kept_twice}
use Rattle.hdl_client.proofs.exchange.receive.Goals as goal

pub returns : goal.returns
returns g c =
    let front : List ℕ = c.receive_exact.new.buffer in
    let payload : List ℕ = c.receive_exact-2.new.buffer in
    let all : Option (List ℕ) = g.S.Transport.received c.args.stream.now in
    let mid : Option (List ℕ) = g.S.Transport.received c.receive_exact.new.self in
    let rest : Option (List ℕ) = g.S.Transport.received c.receive_exact-2.new.self in
    let envelope = c.read-envelope.result in
    let twenty : length front ≡ 20 = search rules in
    let read : envelope ≡ envelope_at front = search rules in
    let accepted : fault_of envelope ≡ None = search rules in
    let len : length payload ≡ payload_len envelope = search rules in
    let found : OwnedFrame = record { envelope = envelope; payload = with_items c.in_ok-payload.payload payload } in
    let room : length payload ≡ c.in_ok-payload.payload.len = search rules in
    let same : found.payload.items ≡ payload = with_items_is c.in_ok-payload.payload payload room in
    record {
      taken = takes_frame all mid rest front payload found c.in_ok-receive_exact.ensures.received c.in_ok-receive_exact-2.ensures.received twenty read accepted len same;
      sent = kept_twice (g.S.Transport.sent c.args.stream.now) (g.S.Transport.sent c.receive_exact.new.self) (g.S.Transport.sent c.receive_exact-2.new.self) c.receive_exact.ensures.sent c.receive_exact-2.ensures.sent;
    }
