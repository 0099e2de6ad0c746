-- A batch of readings sends nothing but readings, and answers to their challenges.
use Rattle.std.proofs.Common.{ℕ, List, [], ◌∷◌, ◌++◌, All}
use Rattle.std.proofs.lemmas.List.Elements.{All-push}
use Rattle.hdl_client.specs.Outcomes.{IsWhole}
use Rattle.hdl_client.specs.declared.challenge.Key.{Key}
use Rattle.hdl_client.specs.declared.task.Task.{Task}
use Rattle.hdl_client.specs.declared.transport.Transport.{Ghosts}
use Rattle.hdl_commands.specs.Update.{IsReading, OnlyReads}

pub only_reads : {T O : Type 0} (g : Ghosts T) (notes : O → Task → ℕ → O → Type 0) (keys : List Key) (tasks : List Task) (before after : T) (begun ended : O) → All IsReading tasks → IsWhole g notes keys tasks before begun after ended → OnlyReads g keys before after
only_reads g notes keys tasks before after begun ended readings whole =
    record { tasks = tasks; readings = readings; run = whole.0; sent = whole.1.sent; proper = whole.1.proper }

pub one_more : (tasks : List Task) (task : Task) → All IsReading tasks → IsReading task → All IsReading (tasks ++ task ∷ [])
one_more tasks task readings reading = All-push IsReading tasks task readings reading
