-- What is next for a request.
use Rattle.std.specs.Prelude.{◌≡◌, ℕ}
use Rattle.futures.specs.Channel.{completed_source}
use Rattle.hdl_web.specs.declared.change_requests.Progress.{Progress}
use Rattle.hdl_web.specs.declared.change_requests.Progress.TheVariants.{Answered, Awaited, Text, Redirected}

-- it waits for this: the answer that a thread makes
abbrev pub Waits : ℕ → Progress → Type 0
Waits source (Awaited from) = source ≡ completed_source from
Waits source (Answered answer) = ⊥
Waits source (Text text) = ⊥
Waits source (Redirected redirect) = ⊥
