-- When a run gives no rack: its set-up is refused exactly where the start is above the ceiling, and else only memory can run out.
use Rattle.std.specs.Prelude.{◌≡◌, ℕ, ◌<◌, ◌≤◌, Ok, Err, Result}
use Rattle.feed.specs.Job.{ceiling}
use Rattle.answers.specs.declared.Refusal.TheVariants.{Start}
use Rattle.runs.specs.declared.run.Fault.{Fault}
use Rattle.runs.specs.declared.run.Fault.TheVariants.{Refused, Memory}

abbrev pub SetUpRefused : {X : Type 0} → ℕ → Result X Fault → Type 0
SetUpRefused start (Ok x) = start ≤ ceiling
SetUpRefused start (Err (Refused f)) = (ceiling < start) × (f ≡ Start)
SetUpRefused start (Err Memory) = start ≤ ceiling
