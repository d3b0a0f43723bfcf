-- Where a turn leads, by the place and the value that went over the bus.
use Rattle.std.specs.Prelude.{ℕ, ◌+◌, cond, ◌==◌, nat_lt}
use Rattle.fast.specs.declared.place.Place.{Place}
use Rattle.fast.specs.declared.place.Place.TheVariants.{Idle, Raise, Announce, Glance, Retreat, Await, Claim, Confirm, Lower, Scan, Recheck, Retry, Within, Release, Clear}

-- after the flag of j, which is lowered: the next flag, or on from the last
abbrev pub scan_after : ℕ → ℕ → Place
scan_after n j = cond (nat_lt j n) (Scan (j + 1)) Recheck

-- where a turn takes station i among n, by its place and the value that went over the bus
abbrev pub next : ℕ → ℕ → Place → ℕ → Place
next n i Idle v = Idle
next n i Raise v = Announce
next n i Announce v = Glance
next n i Glance v = cond (v == 0) Claim Retreat
next n i Retreat v = Await
next n i Await v = cond (v == 0) Raise Await
next n i Claim v = Confirm
next n i Confirm v = cond (v == i) Within Lower
next n i Lower v = Scan 1
next n i (Scan j) v = cond (v == 0) (scan_after n j) (Scan j)
next n i Recheck v = cond (v == i) Within Retry
next n i Retry v = cond (v == 0) Raise Retry
next n i Within v = Within
next n i Release v = Clear
next n i Clear v = Idle
