use Rattle.std.proofs.Common.{◌≡◌, true, false, sym, ap, rules}
use Rattle.std.specs.Prelude.{Ok}
use Rattle.std.proofs.lemmas.Bool.{false_from_ne_true}
use Rattle.hdl_name.specs.Tests.{is_handle}
use Rattle.hdl_journal_entries.proofs.changes.name_in.Goals as goal

pub returns-in-Ok-clause-value : goal.returns-in-Ok-clause-value
returns-in-Ok-clause-value c =
    let is : is_handle c.args.handle.now ≡ true = (c.names_decided.ensures c.args.handle.now).1 c.in-Ok.ensures.handle in
    rw is (ap Ok (sym c.in-Ok.ensures.sent))

pub returns-in-Err : goal.returns-in-Err
returns-in-Err c =
    let none : is_handle c.args.handle.now ≡ false = false_from_ne_true _ (λ is. c.in-Err.ensures.no_handle (search rules) ((c.names_decided.ensures c.args.handle.now).0 is)) in
    rw none (search rules)
