-- The promise over whole runs, for a rack by its kind of lock: no premise is left, and the lone cost is a number.
use Rattle.std.specs.Prelude.{◌≡◌, ℕ, ◌+◌, List, length, Ok, Err, vec_items, Result}
use Rattle.lock.specs.declared.count.WrongStationCount.{WrongStationCount}
use Rattle.lock.specs.Meaning.{Meaning}
use Rattle.feed.specs.declared.job.Job.{Job}
use Rattle.rack.specs.declared.calls.Rack.{Rack}
use Rattle.runs.specs.Promise.{Ready, Promise, Lone, ExactCost, Throughout}
use Rattle.runs.specs.declared.events.Call.{Call}
use Rattle.runs.specs.declared.events.Event.{Event}
use Rattle.one_bit.specs.Plan.{fresh as fresh_one_bit}
use Rattle.one_bit.specs.Meaning.{one_bit_meaning}
use Rattle.fast.specs.Plan.{fresh as fresh_fast}
use Rattle.fast.specs.Meaning.{fast_meaning}
use Rattle.kinds.specs.declared.LockKind.{LockKind}
use Rattle.kinds.specs.declared.LockKind.TheVariants.{Fast, OneBit}
use Rattle.kinds.specs.declared.KindRan.{KindRan}
use Rattle.kinds.specs.declared.KindRan.TheVariants.{OnFast, OnOneBit}

-- of a rack of n stations after some events: the promise, and the exact cost of a lone order besides its job's accesses
pub record Assured {L : Type 0} (m : Meaning L) (lock : L) (n start cost : ℕ) (es : List Event) (r : Rack L) : Type 0 where
  pub stations : length (m.stages lock) ≡ n
  pub promise : Promise m lock start es r
  pub lone_cost : (before : List Event) (i : ℕ) (job : Job) (after later : List Event) → Lone n es before i job after later →
      ExactCost m lock start before i job after cost

-- a lock that was made, if it was, and is ready for a set-up
abbrev pub MadePromise : {L : Type 0} → Meaning L → Result L WrongStationCount → ℕ → List Event → Rack L → Type 0
MadePromise m (Ok lock) start es r = Ready m lock → Promise m lock start es r
MadePromise m (Err wrong) start es r = Unit {0}

abbrev pub MadeThroughout : {L : Type 0} → Meaning L → Result L WrongStationCount → ℕ → List Call → Type 0
MadeThroughout m (Ok lock) start calls = Ready m lock → Throughout m lock start calls
MadeThroughout m (Err wrong) start calls = Unit {0}

-- under the fast lock a lone order costs 7 slots besides its job's accesses, and under the one-bit lock one more than there are stations
abbrev pub KindPromise : ℕ → ℕ → KindRan → Type 0
KindPromise n start (OnFast d) = Assured fast_meaning (fresh_fast n) n start 7 (vec_items d.events) d.rack
KindPromise n start (OnOneBit d) = Assured one_bit_meaning (fresh_one_bit n) n start (n + 1) (vec_items d.events) d.rack

-- the promise at every moment of the calls
abbrev pub KindThroughout : LockKind → ℕ → ℕ → List Call → Type 0
KindThroughout Fast n start calls = Throughout fast_meaning (fresh_fast n) start calls
KindThroughout OneBit n start calls = Throughout one_bit_meaning (fresh_one_bit n) start calls
