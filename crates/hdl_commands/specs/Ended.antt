-- What a batch came to.
use Rattle.std.specs.Prelude.{◌≡◌, ◌==◌, ◌⊎◌, ⊤, ℕ, Bool, List, [], map, All, Contains}
use Rattle.std.specs.List.{filter, list_any}
use Rattle.hdl_msg.specs.declared.codes.ResponseCode.TheVariants.{Success}
use Rattle.hdl_msg.specs.Codes.{response_number}
use Rattle.hdl_commands.specs.declared.exit_status.ExitStatus.{ExitStatus}
use Rattle.hdl_commands.specs.declared.exit_status.ExitStatus.TheVariants as exits
use Rattle.hdl_client.specs.Outcomes.{Outcome, Run, IsRun}
use Rattle.hdl_client.specs.declared.challenge.Key.{Key}
use Rattle.hdl_client.specs.declared.task.Task.{Task}
use Rattle.hdl_client.specs.declared.transport.Transport.{Ghosts}

-- the request was answered that it was done
abbrev pub IsDone : Outcome → Type 0
IsDone outcome = outcome.code ≡ response_number Success

-- whoever is told keeps nothing
abbrev pub keeps_nothing : ⊤ → Task → ℕ → ⊤ → Type 0
keeps_nothing _ _ _ _ = ⊤

-- All of the tasks were asked, each was told once and rightly, and nothing else went or came.
abbrev pub IsAsked : {T : Type 0} → Ghosts T → List Key → List Task → T → T → Run → Type 0
IsAsked g keys tasks before after run = IsRun g keeps_nothing keys before tt tasks run after tt []

-- the status is that of success if each request was answered that it was done, and that of failure otherwise
abbrev pub IsStatusOf : List Outcome → ExitStatus → Type 0
IsStatusOf told status = ((status ≡ exits.Success) × All IsDone told) ⊎ ((status ≡ exits.Failure) × ¬ (All IsDone told))

-- all was asked, and the status says whether all was done
abbrev pub EndsWith : {T : Type 0} → Ghosts T → List Key → List Task → T → T → ExitStatus → Type 0
EndsWith g keys tasks before after status = (run : Run) × IsAsked g keys tasks before after run × IsStatusOf run.told status

-- the request was answered that it was done, or the line that it begins at is among these
abbrev pub IsDoneOrAt : List ℕ → Outcome → Type 0
IsDoneOrAt lines outcome = IsDone outcome ⊎ Contains lines outcome.task.line

-- all was asked, and each request was answered that it was done, or its line is among these
abbrev pub LeavesLines : {T : Type 0} → Ghosts T → List Key → List Task → T → T → List ℕ → Type 0
LeavesLines g keys tasks before after lines = (run : Run) × IsAsked g keys tasks before after run × All (IsDoneOrAt lines) run.told

-- ---- what is asked for once more

abbrev pub line_of : Task → ℕ
line_of task = task.line

-- the task's line is among these
abbrev pub is_at : List ℕ → Task → Bool
is_at lines task = list_any (λ line. line == task.line) lines

-- the lines of those tasks whose line is among these
abbrev pub found_lines : List ℕ → List Task → List ℕ
found_lines lines tasks = map line_of (filter (is_at lines) tasks)

-- what is at these lines was asked for once more, by a task for each
abbrev pub AsksAgain : {T : Type 0} → Ghosts T → List Key → List Task → List ℕ → T → T → Type 0
AsksAgain g keys tasks lines before after = (again : List Task) × (run : Run) × (map line_of again ≡ found_lines lines tasks) × IsAsked g keys again before after run

-- all was asked, and each request was answered that it was done, or what is at its line was asked for once more
abbrev pub CreatesAll : {T : Type 0} → Ghosts T → List Key → List Task → T → T → Type 0
CreatesAll {T} g keys tasks before after = (middle : T) × (lines : List ℕ) × LeavesLines g keys tasks before middle lines × AsksAgain g keys tasks lines middle after
