-- Runs on a rack by its kind of lock.
use Rattle.std.specs.Prelude.{◌≡◌, ℕ, cond, ◌||◌, List, Some, None, Ok, Err, vec_items, Option, Result, ◌==◌, nat_lt}
use Rattle.lock.specs.declared.count.WrongStationCount.{WrongStationCount}
use Rattle.lock.specs.Meaning.{Meaning}
use Rattle.feed.specs.Job.{ceiling}
use Rattle.rack.specs.Calls.{fresh_rack, board_answer}
use Rattle.answers.specs.declared.View.{View}
use Rattle.answers.specs.declared.Refusal.{Refusal}
use Rattle.answers.specs.declared.Refusal.TheVariants.{StationCount, Start}
use Rattle.runs.specs.Events.{events, ran}
use Rattle.runs.specs.declared.events.Call.{Call}
use Rattle.runs.specs.declared.events.Event.{Event}
use Rattle.runs.specs.declared.run.Fault.{Fault}
use Rattle.runs.specs.declared.run.Fault.TheVariants.{Refused, Memory}
use Rattle.runs.specs.declared.run.Ran.{Ran}
use Rattle.one_bit.specs.Plan.{fresh as fresh_one_bit}
use Rattle.one_bit.specs.Meaning.{one_bit_meaning}
use Rattle.fast.specs.Plan.{fresh as fresh_fast}
use Rattle.fast.specs.Meaning.{fast_meaning}
use Rattle.kinds.specs.declared.LockKind.{LockKind}
use Rattle.kinds.specs.declared.LockKind.TheVariants.{Fast, OneBit}
use Rattle.kinds.specs.declared.KindRan.{KindRan}
use Rattle.kinds.specs.declared.KindRan.TheVariants.{OnFast, OnOneBit}

-- why a set-up is refused, if it is: the number of stations is tested before the start
abbrev pub start_refusal : ℕ → Option Refusal
start_refusal start = cond (nat_lt ceiling start) (Some Start) None

abbrev pub set_up_refusal : ℕ → ℕ → Option Refusal
set_up_refusal n start = cond (n == 0 || nat_lt 16 n) (Some StationCount) (start_refusal start)

-- the calls were made one after the other on a rack with that lock
pub record MadeCalls {L : Type 0} (m : Meaning L) (lock : L) (start : ℕ) (calls : List Call) (d : Ran L) : Type 0 where
  pub rack_is : d.rack ≡ ran m (fresh_rack lock start) calls
  pub events_are : vec_items d.events ≡ events m (fresh_rack lock start) calls

abbrev pub LockRun : {L : Type 0} → Meaning L → L → ℕ → List Call → Result (Ran L) Fault → Type 0
LockRun m lock start calls (Ok d) = (start_refusal start ≡ None) × MadeCalls m lock start calls d
LockRun m lock start calls (Err (Refused f)) = start_refusal start ≡ Some f
LockRun m lock start calls (Err Memory) = start_refusal start ≡ None

abbrev pub MadeRun : {L : Type 0} → Meaning L → Result L WrongStationCount → ℕ → List Call → Result (Ran L) Fault → Type 0
MadeRun m (Ok lock) start calls r = LockRun m lock start calls r
MadeRun m (Err wrong) start calls r = r ≡ Err (Refused StationCount)

-- what came of the calls, and what the board shows after them
abbrev pub events_in : KindRan → List Event
events_in (OnFast d) = vec_items d.events
events_in (OnOneBit d) = vec_items d.events

abbrev pub board_in : KindRan → View
board_in (OnFast d) = board_answer fast_meaning d.rack
board_in (OnOneBit d) = board_answer one_bit_meaning d.rack

-- the same by the definitions of the calls, for a kind of lock, a number of stations and a start
abbrev pub kind_events : LockKind → ℕ → ℕ → List Call → List Event
kind_events Fast n start calls = events fast_meaning (fresh_rack (fresh_fast n) start) calls
kind_events OneBit n start calls = events one_bit_meaning (fresh_rack (fresh_one_bit n) start) calls

abbrev pub kind_board : LockKind → ℕ → ℕ → List Call → View
kind_board Fast n start calls = board_answer fast_meaning (ran fast_meaning (fresh_rack (fresh_fast n) start) calls)
kind_board OneBit n start calls = board_answer one_bit_meaning (ran one_bit_meaning (fresh_rack (fresh_one_bit n) start) calls)

-- by the kind of lock
abbrev pub KindCalls : LockKind → ℕ → ℕ → List Call → KindRan → Type 0
KindCalls Fast n start calls (OnFast d) = MadeCalls fast_meaning (fresh_fast n) start calls d
KindCalls Fast n start calls (OnOneBit d) = ⊥
KindCalls OneBit n start calls (OnFast d) = ⊥
KindCalls OneBit n start calls (OnOneBit d) = MadeCalls one_bit_meaning (fresh_one_bit n) start calls d

abbrev pub KindRun : LockKind → ℕ → ℕ → List Call → Result KindRan Fault → Type 0
KindRun kind n start calls (Ok d) = (set_up_refusal n start ≡ None) × KindCalls kind n start calls d
KindRun kind n start calls (Err (Refused f)) = set_up_refusal n start ≡ Some f
KindRun kind n start calls (Err Memory) = set_up_refusal n start ≡ None
