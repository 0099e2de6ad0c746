use Rattle.std.proofs.Common.{◌<◌, length, inl, arith}
use Rattle.std.proofs.lemmas.Result.{on_ok_weaker}
use Rattle.hdl_proxy.proofs.pages.put_table.Goals as goal

pub returns-then-values-lt-MANY : goal.returns-then-values-lt-MANY
returns-then-values-lt-MANY c =
    let few : length c.args.values.now < 20 = omega (arith, c.if-values-lt-MANY.true) in
    on_ok_weaker c.put_few.result (λ put. (put.0, inl (few, put.1), put.2)) c.put_few.ensures
