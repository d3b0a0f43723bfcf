-- What a place says of the station that stands there.
use Rattle.std.specs.Prelude.{ℕ, ◌+◌, ◌-◌, Bool, true, false, cond, Some, None, Option, ◌==◌, nat_lt}
use Rattle.bus.specs.declared.Access.{Access}
use Rattle.bus.specs.declared.Access.TheVariants.{Read, Write}
use Rattle.lock.specs.declared.stage.Stage.{Stage}
use Rattle.lock.specs.declared.stage.Stage.TheVariants.{Rest, Trying, Inside, Leaving}
use Rattle.fast.specs.declared.register.Register.{Register}
use Rattle.fast.specs.declared.register.Register.TheVariants.{X, Y, Flag}
use Rattle.fast.specs.declared.place.Place.{Place}
use Rattle.fast.specs.declared.place.Place.TheVariants.{Idle, Raise, Announce, Glance, Retreat, Await, Claim, Confirm, Lower, Scan, Recheck, Retry, Within, Release, Clear}

abbrev pub stage_at : Place → Stage
stage_at Idle = Rest
stage_at Raise = Trying
stage_at Announce = Trying
stage_at Glance = Trying
stage_at Retreat = Trying
stage_at Await = Trying
stage_at Claim = Trying
stage_at Confirm = Trying
stage_at Lower = Trying
stage_at (Scan j) = Trying
stage_at Recheck = Trying
stage_at Retry = Trying
stage_at Within = Inside
stage_at Release = Leaving
stage_at Clear = Leaving

-- the one access of station i
abbrev pub access_at : ℕ → Place → Option (Access Register ℕ)
access_at i Idle = None
access_at i Raise = Some (Write (Flag i) 1)
access_at i Announce = Some (Write X i)
access_at i Glance = Some (Read Y)
access_at i Retreat = Some (Write (Flag i) 0)
access_at i Await = Some (Read Y)
access_at i Claim = Some (Write Y i)
access_at i Confirm = Some (Read X)
access_at i Lower = Some (Write (Flag i) 0)
access_at i (Scan j) = Some (Read (Flag j))
access_at i Recheck = Some (Read Y)
access_at i Retry = Some (Read Y)
access_at i Within = None
access_at i Release = Some (Write Y 0)
access_at i Clear = Some (Write (Flag i) 0)

-- what the station's flag shows; inside and leaving it may be either, by the way that the station came in
abbrev pub flag_at : Place → Option Bool
flag_at Idle = Some false
flag_at Raise = Some false
flag_at Announce = Some true
flag_at Glance = Some true
flag_at Retreat = Some true
flag_at Await = Some false
flag_at Claim = Some true
flag_at Confirm = Some true
flag_at Lower = Some true
flag_at (Scan j) = Some false
flag_at Recheck = Some false
flag_at Retry = Some false
flag_at Within = None
flag_at Release = None
flag_at Clear = None

-- on the fast way: the station has found Y free, and has not yet looked at X
abbrev pub on_fast_way : Place → Bool
on_fast_way Idle = false
on_fast_way Raise = false
on_fast_way Announce = false
on_fast_way Glance = false
on_fast_way Retreat = false
on_fast_way Await = false
on_fast_way Claim = true
on_fast_way Confirm = true
on_fast_way Lower = false
on_fast_way (Scan j) = false
on_fast_way Recheck = false
on_fast_way Retry = false
on_fast_way Within = false
on_fast_way Release = false
on_fast_way Clear = false

-- the station holds the lock: it is inside, or leaves and has not yet freed Y
abbrev pub holds : Place → Bool
holds Idle = false
holds Raise = false
holds Announce = false
holds Glance = false
holds Retreat = false
holds Await = false
holds Claim = false
holds Confirm = false
holds Lower = false
holds (Scan j) = false
holds Recheck = false
holds Retry = false
holds Within = true
holds Release = true
holds Clear = false

-- Y may have the station's number: it has written it, and has neither freed Y nor found another number there
abbrev pub may_own : Place → Bool
may_own Idle = false
may_own Raise = false
may_own Announce = false
may_own Glance = false
may_own Retreat = false
may_own Await = false
may_own Claim = false
may_own Confirm = true
may_own Lower = true
may_own (Scan j) = true
may_own Recheck = true
may_own Retry = false
may_own Within = true
may_own Release = true
may_own Clear = false

-- the station has looked at the flag of k, on the slow way, and found it lowered
abbrev pub looked_past : Place → ℕ → Bool
looked_past Idle k = false
looked_past Raise k = false
looked_past Announce k = false
looked_past Glance k = false
looked_past Retreat k = false
looked_past Await k = false
looked_past Claim k = false
looked_past Confirm k = false
looked_past Lower k = false
looked_past (Scan j) k = nat_lt k j
looked_past Recheck k = true
looked_past Retry k = false
looked_past Within k = false
looked_past Release k = false
looked_past Clear k = false

-- the turns to come of station i among n, by what X and Y have: until it is inside, if all others rest, or until it rests
abbrev pub to_come : (n x y i : ℕ) → Place → ℕ
to_come n x y i Idle = 0
to_come n x y i Raise = 5
to_come n x y i Announce = 4
to_come n x y i Glance = cond (x == i) 3 (n + 5)
to_come n x y i Retreat = 7
to_come n x y i Await = 6
to_come n x y i Claim = cond (x == i) 2 (n + 4)
to_come n x y i Confirm = cond (x == i) 1 (cond (y == i) (n + 3) (n + 9))
to_come n x y i Lower = cond (y == i) (n + 2) (n + 8)
to_come n x y i (Scan j) = cond (y == i) (n + 2 - j) (n + 8 - j)
to_come n x y i Recheck = cond (y == i) 1 7
to_come n x y i Retry = 6
to_come n x y i Within = 0
to_come n x y i Release = 2
to_come n x y i Clear = 1
