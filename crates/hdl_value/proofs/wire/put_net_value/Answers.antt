use Rattle.hdl_value.proofs.HandleNet.{net_written}
use Rattle.hdl_value.proofs.wire.put_net_value.Goals as goal

pub returns : goal.returns
returns c =
    let second = rw c.second_of.ensures at c.in_ok-put_u32-2.ensures in
    let kind = rw c.as_slice.ensures at c.in_ok-put_string.ensures in
    let bytes = rw c.as_slice-2.ensures at c.in_ok-put_string-2.ensures in
    let refs = rw c.as_slice-3.ensures at c.in_ok-put_references.ensures in
    net_written c.args.out.now.items _ _ _ _ _ _ _ c.args.value.now c.in_ok-put_u32.ensures second c.in_ok-extend_from_slice.ensures.items c.in_ok-push.ensures.items kind bytes refs
