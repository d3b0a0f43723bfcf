-- The number of each outcome, and what an output leaves in a buffer.
use Rattle.std.specs.Prelude.{◌≡◌, ℕ, ◌<◌, ◌≤◌, List, ◌++◌, length, drop}
use Rattle.setpoint_c.specs.declared.outcome.Outcome.{Outcome}
use Rattle.setpoint_c.specs.declared.outcome.Outcome.TheVariants.{Written, TooSmall, NoMemory}

abbrev pub outcome_number : Outcome → ℕ
outcome_number Written = 0
outcome_number TooSmall = 1
outcome_number NoMemory = 2

-- an output and a buffer: where there is room, the output stands at the front and the rest is as it was; else the buffer is as it was.
-- The length told is that of the output, written or not
abbrev pub Placed : Outcome → List ℕ → List ℕ → List ℕ → ℕ → Type 0
Placed Written output before after told = (length output ≤ length before) × (after ≡ output ++ drop (length output) before) × (told ≡ length output)
Placed TooSmall output before after told = (length before < length output) × (after ≡ before) × (told ≡ length output)
Placed NoMemory output before after told = ⊥
