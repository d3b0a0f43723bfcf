-- A job access by access from its start to its end, and what it keeps on the way.
use Rattle.std.specs.Prelude.{◌≡◌, ℕ, zero, suc, ◌<◌, ◌≤◌, List, length, ℤ, pos, ◌-ℤ◌, slice_index_or, unsigned_abs}
use Rattle.feed.specs.Board.{made, read}
use Rattle.feed.specs.Job.{ceiling, most_entries}
use Rattle.feed.specs.Task.{Progress, begun, board_after, left_to_do}
use Rattle.feed.specs.Whole.{Outcome}
use Rattle.feed.specs.declared.board.Board.{Board}
use Rattle.feed.specs.declared.board.Register.TheVariants.{Setpoint, Depth, Signer}
use Rattle.feed.specs.declared.job.Job.{Job}
use Rattle.feed.specs.declared.job.Job.TheVariants.{Trim, Undo, Sign}
use Rattle.feed.specs.declared.job.Verdict.{Verdict}
use Rattle.feed.specs.declared.task.Task.{Task}
use Rattle.std.specs.declared.ops.ControlFlow.TheVariants.{Continue, Break}

-- a task on its board, or the verdict with the board that it left
pub data Doing : Type 0 where
  going : Task → Board → Doing
  done : Verdict → Board → Doing

abbrev pub on : Progress → Board → Doing
on (Continue t) b = going t b
on (Break v) b = done v b

-- one access more of station i, and k of them
abbrev pub next : ℕ → Doing → Doing
next i (going t b) = on (left_to_do i b t) (board_after i b t)
next i (done v b) = done v b

abbrev pub walk : ℕ → ℕ → Doing → Doing
walk i zero s = s
walk i (suc k) s = next i (walk i k s)

-- a number from 0 to m
abbrev pub Upto : ℕ → ℤ → Type 0
Upto m z = (x : ℕ) × (z ≡ pos x) × (x ≤ m)

-- the limits that hold between any two accesses, for n stations
pub record Bounded (n : ℕ) (b : Board) : Type 0 where
  pub setpoint : Upto ceiling (read b Setpoint)
  pub depth : Upto most_entries (read b Depth)
  pub signer : Upto n (read b Signer)

-- entries k down to 1 can be undone one by one, from the setpoint a to the start, each setpoint on the way from 0 to the ceiling
abbrev pub Undoable : ℕ → List ℤ → ℕ → ℕ → Type 0
Undoable start es zero a = a ≡ start
Undoable start es (suc k) a = (x : ℕ) × (pos a -ℤ slice_index_or es k (pos 0) ≡ pos x) × (x ≤ ceiling) × Undoable start es k x

-- between two jobs: what holds of the setpoint a, the depth k, the signer w and the entries es
pub record Settled (start n a k w : ℕ) (es : List ℤ) : Type 0 where
  pub setpoint_most : a ≤ ceiling
  pub depth_most : k ≤ most_entries
  pub signer_most : w ≤ n
  pub size : length es ≡ most_entries
  pub undoable : Undoable start es k a

-- a board between two jobs, for n stations
pub record Fit (start n : ℕ) (b : Board) : Type 0 where
  pub setpoint : ℕ
  pub depth : ℕ
  pub signer : ℕ
  pub entries : List ℤ
  pub is : b ≡ made setpoint depth signer entries
  pub settled : Settled start n setpoint depth signer entries

-- a job that may be ordered
abbrev pub Proper : Job → Type 0
Proper (Trim p) = (1 ≤ unsigned_abs p) × (unsigned_abs p ≤ 200)
Proper Undo = Unit {0}
Proper (Sign v) = Upto ceiling v

-- a job of station i after k accesses, not finished yet
pub record Underway (n i : ℕ) (b : Board) (job : Job) (k : ℕ) : Type 0 where
  pub task : Task
  pub board : Board
  pub is : walk i k (going (begun job) b) ≡ going task board
  pub bounded : Bounded n board

-- its accesses in a row end with the outcome, none before ends it, and it leaves a board that the next job can start from
pub record Course (start n i : ℕ) (b : Board) (job : Job) (o : Outcome) : Type 0 where
  pub underway : (k : ℕ) → k < o.accesses → Underway n i b job k
  pub ends : walk i o.accesses (going (begun job) b) ≡ done o.verdict o.board
  pub fit : Fit start n o.board
