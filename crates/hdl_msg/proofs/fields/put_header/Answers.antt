use Rattle.hdl_msg.proofs.Written.{header_written}
use Rattle.hdl_msg.proofs.fields.put_header.Goals as goal

pub returns : goal.returns
returns c =
    header_written c.args.out.now.items _ _ _ _ _ _ _ c.args.header c.in_ok-put_u32.ensures c.in_ok-put_u32-2.ensures c.in_ok-put_u32-3.ensures c.in_ok-put_u16.ensures
    c.in_ok-push.ensures.items c.in_ok-push-2.ensures.items c.in_ok-put_u32-4.ensures
