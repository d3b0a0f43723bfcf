-- Each call on a rack: its answer, and the rack after it.
use Rattle.std.specs.Prelude.{ℕ, zero, suc, ◌+◌, ◌-◌, min, Bool, false, cond, List, replicate, ℤ, pos, negsuc, Some, None, Ok, Err, Option, Result, ◌==◌, int_lt, nat_lt, slice_index_or, slice_set}
use Rattle.std.specs.declared.ops.ControlFlow.TheVariants.{Continue, Break}
use Rattle.bus.specs.declared.Access.{Access}
use Rattle.lock.specs.declared.stage.Stage.{Stage}
use Rattle.lock.specs.declared.stage.Stage.TheVariants.{Rest, Trying, Inside, Leaving}
use Rattle.lock.specs.Stages.{asked, is_inside}
use Rattle.lock.specs.Meaning.{Meaning}
use Rattle.feed.specs.Board.{fresh, read}
use Rattle.feed.specs.Job.{ceiling}
use Rattle.feed.specs.Task.{Progress, begun, access_of, left_to_do, board_after}
use Rattle.feed.specs.declared.board.Board.{Board}
use Rattle.feed.specs.declared.board.Register.{Register}
use Rattle.feed.specs.declared.board.Register.TheVariants.{Setpoint, Depth, Signer}
use Rattle.feed.specs.declared.job.Job.{Job}
use Rattle.feed.specs.declared.job.Job.TheVariants.{Trim, Undo, Sign}
use Rattle.feed.specs.declared.job.Verdict.{Verdict}
use Rattle.feed.specs.declared.task.Task.{Task}
use Rattle.feed.specs.declared.task.Task.TheVariants.{TrimReadSetpoint}
use Rattle.answers.specs.declared.Refusal.{Refusal}
use Rattle.answers.specs.declared.Refusal.TheVariants.{Start, StationNumber, TrimValue, SignValue, NotResting, Resting}
use Rattle.answers.specs.declared.Served.{Served}
use Rattle.answers.specs.declared.Served.TheVariants.{StillTrying, NowInside, Working, Ended, StillLeaving, NowResting}
use Rattle.answers.specs.declared.Seen.{Seen}
use Rattle.answers.specs.declared.View.{View}
use Rattle.rack.specs.declared.calls.Station.{Station}
use Rattle.rack.specs.declared.calls.Rack.{Rack}

abbrev pub station_of : Task → ℕ → Option Verdict → Station
station_of t n v = record { task = t; count = n; last = v }

abbrev pub rack_of : {L : Type 0} → L → List Station → Board → Rack L
rack_of l ss b = record { lock = l; stations = ss; board = b }

-- a station before its first order
abbrev pub idle : Station
idle = station_of (TrimReadSetpoint (pos 0)) 0 None

-- what the rack keeps of a station
abbrev pub kept : {L : Type 0} → Rack L → ℕ → Station
kept r i = slice_index_or r.stations (i - 1) idle

-- the list of what is kept, after one station's part is altered
abbrev pub with_kept : {L : Type 0} → Rack L → ℕ → Station → List Station
with_kept r i s = slice_set r.stations (i - 1) s

-- the stage of a station, or nothing for a number that is no station's
abbrev pub stage_of : {L : Type 0} → Meaning L → Rack L → ℕ → Option Stage
stage_of m r i = cond (i == 0) None (cond (nat_lt 16 i) None (asked (m.stages r.lock) i))

-- a station with its stage
abbrev pub found_at : ℕ → Option Stage → Result (ℕ × Stage) Refusal
found_at i None = Err StationNumber
found_at i (Some s) = Ok (i, s)

abbrev pub found : {L : Type 0} → Meaning L → Rack L → ℕ → Result (ℕ × Stage) Refusal
found m r i = found_at i (stage_of m r i)

-- SET UP: all stations before their first order, the start on a fresh board

abbrev pub fresh_rack : {L : Type 0} → L → ℕ → Rack L
fresh_rack l start = rack_of l (replicate 16 idle) (fresh (pos start))

abbrev pub set_up : {L : Type 0} → L → ℕ → Result (Rack L) Refusal
set_up l start = cond (nat_lt ceiling start) (Err Start) (Ok (fresh_rack l start))

-- ORDER, by the station's stage and what is wrong with the job

abbrev is_zero : ℤ → Bool
is_zero (pos n) = n == 0
is_zero (negsuc n) = false

-- a trim of 0 or outside -200 to 200, a signature for a value outside 0 to the ceiling
abbrev pub fault : Job → Option Refusal
fault (Trim p) = cond (is_zero p) (Some TrimValue) (cond (int_lt p (negsuc 199)) (Some TrimValue) (cond (int_lt (pos 200) p) (Some TrimValue) None))
fault Undo = None
fault (Sign v) = cond (int_lt v (pos 0)) (Some SignValue) (cond (int_lt (pos ceiling) v) (Some SignValue) None)

abbrev pub unless : Option Refusal → Result (Unit {0}) Refusal
unless None = Ok tt
unless (Some f) = Err f

abbrev pub fitting : Job → Result (Unit {0}) Refusal
fitting job = unless (fault job)

abbrev pub order_said : Option Stage → Option Refusal → Result (Unit {0}) Refusal
order_said None f = Err StationNumber
order_said (Some s) (Some f) = Err f
order_said (Some Rest) None = Ok tt
order_said (Some Trying) None = Err NotResting
order_said (Some Inside) None = Err NotResting
order_said (Some Leaving) None = Err NotResting

abbrev pub order_answer : {L : Type 0} → Meaning L → Rack L → ℕ → Job → Result (Unit {0}) Refusal
order_answer m r i job = order_said (stage_of m r i) (fault job)

-- the station is trying, its job before its first access, its count 0
abbrev pub ordered_rack : {L : Type 0} → Meaning L → Rack L → ℕ → Job → Rack L
ordered_rack m r i job = rack_of (m.begun r.lock i) (with_kept r i (station_of (begun job) 0 (kept r i).last)) r.board

-- a refused order alters nothing
abbrev pub order_left : {L : Type 0} → Rack L → Rack L → Result (Unit {0}) Refusal → Rack L
order_left r new (Ok x) = new
order_left r new (Err f) = r

abbrev pub order_rack : {L : Type 0} → Meaning L → Rack L → ℕ → Job → Rack L
order_rack m r i job = order_left r (ordered_rack m r i job) (order_answer m r i job)

-- SLOT, by the station's stage

-- one slot more on a count, which stops at 65,535
abbrev pub counted : ℕ → ℕ
counted n = min (n + 1) 65535

-- trying or leaving: one turn of the lock
abbrev pub turned_rack : {L : Type 0} → Meaning L → Rack L → ℕ → Rack L
turned_rack m r i = rack_of (m.turned r.lock i) (with_kept r i (station_of (kept r i).task (counted (kept r i).count) (kept r i).last)) r.board

abbrev pub tried : Option Stage → Served
tried None = StillTrying
tried (Some Rest) = StillTrying
tried (Some Trying) = StillTrying
tried (Some Inside) = NowInside
tried (Some Leaving) = StillTrying

abbrev pub left : Option Stage → Served
left None = StillLeaving
left (Some Rest) = NowResting
left (Some Trying) = StillLeaving
left (Some Inside) = StillLeaving
left (Some Leaving) = StillLeaving

-- inside: one access of the job, by what it leaves to do
abbrev pub to_do : {L : Type 0} → Rack L → ℕ → Progress
to_do r i = left_to_do i r.board (kept r i).task

abbrev pub worked_by : {L : Type 0} → Meaning L → Rack L → ℕ → Progress → Rack L
worked_by m r i (Continue t) =
    rack_of r.lock (with_kept r i (station_of t (counted (kept r i).count) (kept r i).last)) (board_after i r.board (kept r i).task)
worked_by m r i (Break v) =
    rack_of (m.ended r.lock i) (with_kept r i (station_of (kept r i).task (counted (kept r i).count) (Some v))) (board_after i r.board (kept r i).task)

abbrev pub worked_rack : {L : Type 0} → Meaning L → Rack L → ℕ → Rack L
worked_rack m r i = worked_by m r i (to_do r i)

abbrev pub worked : Progress → Served
worked (Continue t) = Working
worked (Break v) = Ended v

abbrev pub worked_answer : {L : Type 0} → Rack L → ℕ → Served
worked_answer r i = worked (to_do r i)

abbrev pub slot_said : {L : Type 0} → Meaning L → Rack L → ℕ → Option Stage → Result Served Refusal
slot_said m r i None = Err StationNumber
slot_said m r i (Some Rest) = Err Resting
slot_said m r i (Some Trying) = Ok (tried (stage_of m (turned_rack m r i) i))
slot_said m r i (Some Inside) = Ok (worked_answer r i)
slot_said m r i (Some Leaving) = Ok (left (stage_of m (turned_rack m r i) i))

abbrev pub slot_left : {L : Type 0} → Meaning L → Rack L → ℕ → Option Stage → Rack L
slot_left m r i None = r
slot_left m r i (Some Rest) = r
slot_left m r i (Some Trying) = turned_rack m r i
slot_left m r i (Some Inside) = worked_rack m r i
slot_left m r i (Some Leaving) = turned_rack m r i

abbrev pub slot_answer : {L : Type 0} → Meaning L → Rack L → ℕ → Result Served Refusal
slot_answer m r i = slot_said m r i (stage_of m r i)

abbrev pub slot_rack : {L : Type 0} → Meaning L → Rack L → ℕ → Rack L
slot_rack m r i = slot_left m r i (stage_of m r i)

-- LOOK, by the station's stage

abbrev pub look_said : Station → Option Stage → Result Seen Refusal
look_said s None = Err StationNumber
look_said s (Some x) = Ok (record { stage = x; count = s.count; last = s.last })

abbrev pub look_answer : {L : Type 0} → Meaning L → Rack L → ℕ → Result Seen Refusal
look_answer m r i = look_said (kept r i) (stage_of m r i)

-- THE NEXT ACCESS on the board, of a station inside

abbrev pub next_said : {L : Type 0} → Rack L → ℕ → Option Stage → Option (Access Register ℤ)
next_said r i None = None
next_said r i (Some Rest) = None
next_said r i (Some Trying) = None
next_said r i (Some Inside) = Some (access_of i (kept r i).task)
next_said r i (Some Leaving) = None

abbrev pub next_access : {L : Type 0} → Meaning L → Rack L → ℕ → Option (Access Register ℤ)
next_access m r i = next_said r i (stage_of m r i)

-- BOARD

-- the station inside among 1 to k
abbrev pub inside_among : List Stage → ℕ → Option ℕ
inside_among s zero = None
inside_among s (suc k) = cond (is_inside s (suc k)) (Some (suc k)) (inside_among s k)

abbrev pub board_answer : {L : Type 0} → Meaning L → Rack L → View
board_answer m r =
    record { setpoint = read r.board Setpoint; depth = read r.board Depth; signer = read r.board Signer; inside = inside_among (m.stages r.lock) 16 }
