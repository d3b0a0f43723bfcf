-- The ledger: what the finished jobs, each done whole, one after the other, would leave. It knows nothing of racks and locks.
use Rattle.std.specs.Prelude.{ℕ, cond, List, pos, Some, None, Ok, Err, Option, ◌==◌}
use Rattle.std.specs.List.{fold}
use Rattle.feed.specs.Board.{fresh}
use Rattle.feed.specs.Whole.{whole}
use Rattle.feed.specs.declared.board.Board.{Board}
use Rattle.feed.specs.declared.job.Job.{Job}
use Rattle.feed.specs.declared.job.Verdict.{Verdict}
use Rattle.answers.specs.declared.Served.{Served}
use Rattle.answers.specs.declared.Served.TheVariants.{StillTrying, NowInside, Working, Ended, StillLeaving, NowResting}
use Rattle.runs.specs.declared.events.Event.{Event}
use Rattle.runs.specs.declared.events.Event.TheVariants.{Ordered, Slotted, Looked, Shown}

-- a board of its own, and for each station a noted job and a last verdict
pub record Ledger : Type 0 where
  pub board : Board
  pub noted : ℕ → Option Job
  pub last : ℕ → Option Verdict

-- of a set-up: a fresh board, no job noted, no verdict yet
abbrev pub opened : ℕ → Ledger
opened start = record { board = fresh (pos start); noted = λ _. None; last = λ _. None }

abbrev pub put : {X : Type 0} → (ℕ → X) → ℕ → X → ℕ → X
put f i x j = cond (j == i) x (f j)

-- notes a job for a station, in place of any before
abbrev pub note : Ledger → ℕ → Job → Ledger
note g i job = record { board = g.board; noted = put g.noted i (Some job); last = g.last }

-- does the noted job, if any, whole; the verdict that comes out here becomes the station's last
abbrev pub do_whole : Ledger → ℕ → Option Job → Ledger
do_whole g i None = g
do_whole g i (Some job) = record { board = (whole i g.board job).board; noted = g.noted; last = put g.last i (Some (whole i g.board job).verdict) }

-- a slot answered with a verdict does its station's noted job; every other slot alters nothing
abbrev pub served : Ledger → ℕ → Served → Ledger
served g i StillTrying = g
served g i NowInside = g
served g i Working = g
served g i (Ended v) = do_whole g i (g.noted i)
served g i StillLeaving = g
served g i NowResting = g

-- an order answered 0 notes its job; what is refused, looks and shows alter nothing
abbrev pub fed : Ledger → Event → Ledger
fed g (Ordered i job (Ok x)) = note g i job
fed g (Ordered i job (Err f)) = g
fed g (Slotted i (Ok s)) = served g i s
fed g (Slotted i (Err f)) = g
fed g (Looked i a) = g
fed g (Shown v) = g

abbrev pub fed_all : Ledger → List Event → Ledger
fed_all = fold fed

-- the ledger that is fed the start and then the events
abbrev pub ledger : ℕ → List Event → Ledger
ledger start es = fed_all (opened start) es
