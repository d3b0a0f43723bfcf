-- The number of each answer. An answer is read with its call.
use Rattle.std.specs.Prelude.{ℕ, ◌+◌, Some, None, Ok, Err, Option, Result}
use Rattle.lock.specs.Numbers.{wrong_count_number}
use Rattle.feed.specs.Job.{verdict_number}
use Rattle.feed.specs.declared.job.Verdict.{Verdict}
use Rattle.answers.specs.declared.Refusal.{Refusal}
use Rattle.answers.specs.declared.Refusal.TheVariants.{StationCount, Start, StationNumber, TrimValue, SignValue, NotResting, Resting}
use Rattle.answers.specs.declared.Served.{Served}
use Rattle.answers.specs.declared.Served.TheVariants.{StillTrying, NowInside, Working, Ended, StillLeaving, NowResting}

abbrev pub refusal_number : Refusal → ℕ
refusal_number StationCount = wrong_count_number
refusal_number Start = 2
refusal_number StationNumber = 3
refusal_number TrimValue = 4
refusal_number SignValue = 5
refusal_number NotResting = 6
refusal_number Resting = 7

abbrev pub served_number : Served → ℕ
served_number StillTrying = 10
served_number NowInside = 11
served_number Working = 12
served_number StillLeaving = 13
served_number NowResting = 14
served_number (Ended v) = 20 + verdict_number v

-- of an accepted or refused call, by the number of what an accepted one says
abbrev pub answer_number : {T : Type 0} → (T → ℕ) → Result T Refusal → ℕ
answer_number number_of (Ok x) = number_of x
answer_number number_of (Err f) = refusal_number f

-- of an order, and of a slot
abbrev pub order_number : Result (Unit {0}) Refusal → ℕ
order_number = answer_number (λ x. 0)

abbrev pub slot_number : Result Served Refusal → ℕ
slot_number = answer_number served_number

-- of the last verdict, 0 before the first
abbrev pub last_number : Option Verdict → ℕ
last_number None = 0
last_number (Some v) = verdict_number v

-- of the station inside, 0 if there is none
abbrev pub inside_number : Option ℕ → ℕ
inside_number None = 0
inside_number (Some i) = i
