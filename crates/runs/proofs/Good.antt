-- The invariant: what holds of a rack, beside all that was heard, after every call.
use Rattle.std.proofs.Common.{◌≡◌, ℕ, ◌+◌, ◌-◌, ◌<◌, min, List, length, get_or, Some, Option}
use Rattle.std.specs.List.{count_by}
use Rattle.lock.specs.declared.stage.Stage.{Stage}
use Rattle.lock.specs.declared.stage.Stage.TheVariants.{Trying, Inside}
use Rattle.lock.specs.Stages as stages
use Rattle.lock.specs.Stages.{asked}
use Rattle.lock.specs.Meaning.{Meaning}
use Rattle.feed.specs.Task.{begun}
use Rattle.feed.specs.Whole.{whole}
use Rattle.feed.specs.Course.{going, walk, Fit, Proper}
use Rattle.feed.specs.declared.board.Board.{Board}
use Rattle.feed.specs.declared.job.Job.{Job}
use Rattle.feed.specs.declared.task.Task.{Task}
use Rattle.rack.specs.Calls.{idle}
use Rattle.rack.specs.declared.calls.Station.{Station}
use Rattle.rack.specs.declared.calls.Rack.{Rack}
use Rattle.runs.specs.Told.{tries, works}
use Rattle.runs.specs.Ledger.{Ledger}
use Rattle.runs.proofs.Fixed.{Fixed}
use Rattle.runs.proofs.Heard.{Heard}

-- a job that waits for its station to get in: noted, proper, and before its first access
pub record Waiting (noted : Option Job) (t : Task) : Type 0 where
  pub job : Job
  pub is_noted : noted ≡ Some job
  pub proper : Proper job
  pub at_start : t ≡ begun job

-- one station: its stage, and what the rack keeps of it
pub record Known (h : Heard) (j : ℕ) (stage : Option Stage) (kept : Station) : Type 0 where
  pub stage_is : stage ≡ Some (h.stage j)
  pub count_is : kept.count ≡ min (h.since j) 65535
  pub last_is : kept.last ≡ h.ledger.last j
  pub waiting : h.stage j ≡ Trying → Waiting (h.ledger.noted j) kept.task

-- a job under way: noted, proper, and some accesses from its start on the ledger's board
pub record Midway (i : ℕ) (book : Board) (noted : Option Job) (t : Task) (now : Board) : Type 0 where
  pub job : Job
  pub is_noted : noted ≡ Some job
  pub proper : Proper job
  pub made : ℕ
  pub not_all : made < (whole i book job).accesses
  pub walked : walk i made (going (begun job) book) ≡ going t now

abbrev pub NobodyInside : List Stage → Type 0
NobodyInside s = (i : ℕ) → asked s i ≡ Some Inside → ⊥

-- nobody is inside, and the board is the ledger's; or a station is, with its job under way
pub data Middle (s : List Stage) (kept : List Station) (now : Board) (g : Ledger) : Type 0 where
  nobody : NobodyInside s → now ≡ g.board → Middle s kept now g
  somebody : (i : ℕ) → asked s i ≡ Some Inside → Midway i g.board (g.noted i) (get_or kept (i - 1) idle).task now → Middle s kept now g

-- stages, stations and board of a rack of n stations agree with what was heard
pub record Agree (start n : ℕ) (h : Heard) (s : List Stage) (kept : List Station) (now : Board) : Type 0 where
  pub size : length kept ≡ 16
  pub fit : Fit start n h.ledger.board
  pub known : (j : ℕ) → stages.Station s j → Known h j (asked s j) (get_or kept (j - 1) idle)
  pub middle : Middle s kept now h.ledger
  pub balance : h.accepted ≡ h.finished + count_by tries s + count_by works s

pub record Good {L : Type 0} (m : Meaning L) (lock : L) (start : ℕ) (h : Heard) (r : Rack L) : Type 0 where
  pub fixed : Fixed m lock r.lock
  pub agree : Agree start (length (m.stages lock)) h (m.stages r.lock) r.stations r.board
