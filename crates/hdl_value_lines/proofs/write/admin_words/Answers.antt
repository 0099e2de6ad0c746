use Rattle.std.proofs.Common.{◌≡◌, ltb, true, rules}
use Rattle.std.proofs.lemmas.Bool.{lt-ltb}
use Rattle.hdl_value_lines.specs.Fields.{is_word}
use Rattle.hdl_value_lines.proofs.Putting.{admin_put}
use Rattle.hdl_value_lines.proofs.write.admin_words.Goals as goal

pub returns : goal.returns
returns c =
    let small : ltb c.args.mask 4096 ≡ true = lt-ltb _ _ c.if-mask-ge4096.false in
    let word : is_word c.args.key.now.name ≡ true = search rules in
    let put = admin_put _ _ _ _ _ _ _ _ _ c.in_ok-text.ensures.items c.in_ok-put_number.ensures c.in_ok-push.ensures.items c.in_ok-put_bits.ensures c.in_ok-push-2.ensures.items c.in_ok-extend_from_slice.ensures.items in
    rw (small, word) (search (rules, put))
