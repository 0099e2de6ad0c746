use Rattle.std.proofs.Common.{false, refl, rules}
use Rattle.hdl_rest.specs.Sending.{says_done}
use Rattle.hdl_rest.proofs.Ones.{mint_told, told_so}
use Rattle.hdl_rest.proofs.Sendings.{asked_so, asked_then, mints_then, none_minted}
use Rattle.hdl_rest.proofs.mint.mint.Goals as goal

pub returns-in_err-answer-clause-asked : goal.returns-in_err-answer-clause-asked
returns-in_err-answer-clause-asked g c = asked_then c.loop.invariant c.mint_once.ensures.asked (λ xs ys exist once.
    (once.0.0, mints_then c.args.order.now.key c.args.order.now.name c.args.values.now xs ys once.0.0 exist once.0.1, search rules))

pub returns-in-Some-clause-asked : goal.returns-in-Some-clause-asked
returns-in-Some-clause-asked g c = asked_then c.loop.invariant c.in_ok-answer.ensures.asked (λ xs ys exist once.
    (says_done c.in-Some.answer.status, mints_then c.args.order.now.key c.args.order.now.name c.args.values.now xs ys _ exist (mint_told c.args.order.now.key c.args.order.now.name c.args.values.now c.in_ok-answer.field-0 c.in-Some.answer ys c.in-Some.is once.1), refl))

pub returns-clause-asked : goal.returns-clause-asked
returns-clause-asked g c = asked_so c.loop.invariant (λ xs exist. (false, none_minted c.args.order.now.key c.args.order.now.name c.args.values.now xs exist, told_so _ _ _ false c.failure.ensures.told refl))
