-- Where a turn leads, by the place and the value that went over the bus.
use Rattle.std.specs.Prelude.{ℕ, ◌+◌, Bool, cond, nat_lt}
use Rattle.one_bit.specs.declared.place.Place.{Place}
use Rattle.one_bit.specs.declared.place.Place.TheVariants.{Idle, Raise, CheckLow, Yield, Await, CheckHigh, Within, Lower}

-- after the flag of j, not below its own: the next one, or inside
abbrev pub higher_after : ℕ → ℕ → Place
higher_after n j = cond (nat_lt j n) (CheckHigh (j + 1)) Within

-- of station i, after the flag of j, below its own: the next one below its own, or those above
abbrev pub lower_after : ℕ → ℕ → ℕ → Place
lower_after n i j = cond (nat_lt (j + 1) i) (CheckLow (j + 1)) (higher_after n i)

-- where a turn takes station i among n, by its place and the value that went over the bus
abbrev pub next : ℕ → ℕ → Place → Bool → Place
next n i Idle v = Idle
next n i Raise v = lower_after n i 0
next n i (CheckLow j) v = cond v (Yield j) (lower_after n i j)
next n i (Yield j) v = Await j
next n i (Await j) v = cond v (Await j) Raise
next n i (CheckHigh j) v = cond v (CheckHigh j) (higher_after n j)
next n i Within v = Within
next n i Lower v = Idle
