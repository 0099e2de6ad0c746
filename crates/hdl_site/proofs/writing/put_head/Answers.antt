use Rattle.std.specs.Int.{w16, to_be_bytes}
use Rattle.hdl_value.specs.Spelling.{string}
use Rattle.hdl_site.proofs.Heads.{head_written}
use Rattle.hdl_site.proofs.writing.put_head.Goals as goal

pub returns : goal.returns
returns c =
    let site = c.args.site.now in
    let filter = rw c.as_slice.ensures at c.in_ok-put_string.ensures in
    head_written c.args.out.now.items _ _ _ _ _ _ _ (to_be_bytes w16 site.form) site.major site.minor (to_be_bytes w16 site.serial) site.primary site.hash_option (string site.hash_filter)
    c.in_ok-put_u16.ensures c.in_ok-push.ensures.items c.in_ok-push-2.ensures.items c.in_ok-put_u16-2.ensures c.in_ok-push-3.ensures.items c.in_ok-push-4.ensures.items filter
