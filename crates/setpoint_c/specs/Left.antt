-- What a call with a sheet and a buffer leaves: the outcome, the buffer after it and the length that it tells.
use Rattle.std.specs.Prelude.{◌≡◌, ℕ, List}
use Rattle.answering.specs.Answer.{Answered}
use Rattle.setpoint_c.specs.declared.outcome.Outcome.{Outcome}
use Rattle.setpoint_c.specs.declared.outcome.Outcome.TheVariants.{NoMemory}
use Rattle.setpoint_c.specs.Outcomes.{outcome_number, Placed}

-- the sheet's output is placed; or there was no memory, which no contract can exclude
pub data Left (sheet before : List ℕ) (outcome : Outcome) (after : List ℕ) (told : ℕ) : Type 0 where
  answered : (output : List ℕ) → Answered sheet output → Placed outcome output before after told → Left sheet before outcome after told
  no_memory : outcome ≡ NoMemory → after ≡ before → told ≡ 0 → Left sheet before outcome after told

-- the same, of the outcome's number
pub record Told (sheet before : List ℕ) (number : ℕ) (after : List ℕ) (told : ℕ) : Type 0 where
  pub outcome : Outcome
  pub numbered : number ≡ outcome_number outcome
  pub left : Left sheet before outcome after told
