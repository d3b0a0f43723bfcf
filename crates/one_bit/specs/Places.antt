-- What a place says of the station that stands there.
use Rattle.std.specs.Prelude.{ℕ, ◌+◌, ◌-◌, ◌<◌, ◌≤◌, Bool, true, false, Some, None, Option}
use Rattle.bus.specs.declared.Access.{Access}
use Rattle.bus.specs.declared.Access.TheVariants.{Read, Write}
use Rattle.lock.specs.declared.stage.Stage.{Stage}
use Rattle.lock.specs.declared.stage.Stage.TheVariants.{Rest, Trying, Inside, Leaving}
use Rattle.one_bit.specs.declared.register.Register.{Register}
use Rattle.one_bit.specs.declared.register.Register.TheVariants.{Flag}
use Rattle.one_bit.specs.declared.place.Place.{Place}
use Rattle.one_bit.specs.declared.place.Place.TheVariants.{Idle, Raise, CheckLow, Yield, Await, CheckHigh, Within, Lower}

abbrev pub stage_at : Place → Stage
stage_at Idle = Rest
stage_at Raise = Trying
stage_at (CheckLow j) = Trying
stage_at (Yield j) = Trying
stage_at (Await j) = Trying
stage_at (CheckHigh j) = Trying
stage_at Within = Inside
stage_at Lower = Leaving

-- the one access of station i
abbrev pub access_at : ℕ → Place → Option (Access Register Bool)
access_at i Idle = None
access_at i Raise = Some (Write (Flag i) true)
access_at i (CheckLow j) = Some (Read (Flag j))
access_at i (Yield j) = Some (Write (Flag i) false)
access_at i (Await j) = Some (Read (Flag j))
access_at i (CheckHigh j) = Some (Read (Flag j))
access_at i Within = None
access_at i Lower = Some (Write (Flag i) false)

-- what the station's flag shows
abbrev pub raised : Place → Bool
raised Idle = false
raised Raise = false
raised (CheckLow j) = true
raised (Yield j) = true
raised (Await j) = false
raised (CheckHigh j) = true
raised Within = true
raised Lower = true

-- how far the station reaches: it has passed every other station below this number, that is, it has seen the flag of each lowered since it raised its own
abbrev pub reach : Place → ℕ
reach Idle = 0
reach Raise = 0
reach (CheckLow j) = j
reach (Yield j) = 0
reach (Await j) = 0
reach (CheckHigh j) = j
reach Within = 17
reach Lower = 17

-- of station i among n: the number that the place keeps is in range
abbrev pub Ranged : ℕ → ℕ → Place → Type 0
Ranged n i Idle = Unit {0}
Ranged n i Raise = Unit {0}
Ranged n i (CheckLow j) = (1 ≤ j) × (j < i)
Ranged n i (Yield j) = (1 ≤ j) × (j < i)
Ranged n i (Await j) = (1 ≤ j) × (j < i)
Ranged n i (CheckHigh j) = (i < j) × (j ≤ n)
Ranged n i Within = Unit {0}
Ranged n i Lower = Unit {0}

-- the turns to come of a station among n, if no other has its flag raised
abbrev pub to_come : ℕ → Place → ℕ
to_come n Idle = 0
to_come n Raise = n
to_come n (CheckLow j) = n - j
to_come n (Yield j) = n + 2
to_come n (Await j) = n + 1
to_come n (CheckHigh j) = n + 1 - j
to_come n Within = 0
to_come n Lower = 1
