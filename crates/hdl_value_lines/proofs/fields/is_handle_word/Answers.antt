use Rattle.std.proofs.Common.{◌≡◌, true, rules}
use Rattle.hdl_name.specs.Tests.{is_handle}
use Rattle.hdl_name.proofs.Equal.{handle_decides}
use Rattle.hdl_value_lines.specs.Fields.{is_word}
use Rattle.hdl_value_lines.proofs.fields.is_handle_word.Goals as goal

pub returns-then-is_word : goal.returns-then-is_word
returns-then-is_word c =
    let name : c.is_name.result ≡ is_handle c.args.octets.now = search (rules, handle_decides) in
    let word : is_word c.args.octets.now ≡ true = search rules in
    rw word name
