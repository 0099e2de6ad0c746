use Rattle.std.proofs.Common.{◌≡◌, false, rules}
use Rattle.std.proofs.lemmas.Bool.{false_from_ne_true}
use Rattle.hdl_name.specs.Tests.{is_handle}
use Rattle.hdl_ops.specs.Admission.{handle_in}
use Rattle.hdl_ops.proofs.admit.read_name.Goals as goal

pub returns-in-Err : goal.returns-in-Err
unfolding handle_in
returns-in-Err c =
    let none : is_handle c.args.octets.now ≡ false = false_from_ne_true _ (λ is. c.in-Err.ensures.no_handle (search rules) ((c.names_decided.ensures c.args.octets.now).0 is)) in
    rw none (search rules)
