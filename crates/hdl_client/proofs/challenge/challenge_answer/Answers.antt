-- The challenge of another request is the one that was read.
use Rattle.std.proofs.Common.{rules}
use Rattle.hdl_client.proofs.challenge.challenge_answer.Goals as goal

pub returns-then-not-is_digest_of-clause-other : goal.returns-then-not-is_digest_of-clause-other
returns-then-not-is_digest_of-clause-other c =
    let found = c.in-Nonce-Some in
    λ _. (found.nonce.now, found.request_digest, (search rules, search rules), search rules)
