-- What holds of the jobs, in statements of their own.
use Rattle.std.specs.Prelude.{◌≡◌, ℕ, ◌<◌, ◌≤◌, ℤ, pos, ◌+ℤ◌, ◌≢◌, unsigned_abs}
use Rattle.bus.specs.declared.Access.TheVariants.{Read}
use Rattle.feed.specs.Board.{fresh}
use Rattle.feed.specs.Job.{ceiling}
use Rattle.feed.specs.Task.{begun, access_of, computed}
use Rattle.feed.specs.Whole.{Outcome, whole, setpoint, depth, signer, pile, sum, difference}
use Rattle.feed.specs.Course.{going, walk, Bounded, Fit, Proper, Course}
use Rattle.feed.specs.declared.board.Board.{Board}
use Rattle.feed.specs.declared.board.Register.{Register}
use Rattle.feed.specs.declared.job.Job.{Job}
use Rattle.feed.specs.declared.job.Job.TheVariants.{Trim, Undo}
use Rattle.feed.specs.declared.job.Verdict.TheVariants.{Done}
use Rattle.feed.specs.declared.task.Task.{Task}

-- of a setpoint that a board can have, and a trim that may be ordered, the computed difference is the trim's
abbrev pub ComputedExactly : Type 0
ComputedExactly = (a : ℕ) (p : ℤ) → a ≤ ceiling → unsigned_abs p ≤ 200 → computed (pos a) p ≡ difference (pos a) p

-- on a board between two jobs, the accesses of a job in a row do the job whole
abbrev pub WholeByAccesses : Type 0
WholeByAccesses = (start n i : ℕ) (b : Board) (job : Job) → Fit start n b → i ≤ n → Proper job → Course start n i b job (whole i b job)

-- a job that does not end with verdict 1 leaves all registers as they were
abbrev pub RefusedJobsWriteNothing : Type 0
RefusedJobsWriteNothing = (i : ℕ) (b : Board) (job : Job) → ((whole i b job).verdict ≢ Done) → (whole i b job).board ≡ b

-- none of the accesses of such a job is a write
abbrev pub RefusedJobsOnlyRead : Type 0
RefusedJobsOnlyRead =
    (i : ℕ) (b : Board) (job : Job) → ((whole i b job).verdict ≢ Done) →
    (k : ℕ) (t : Task) (c : Board) → k < (whole i b job).accesses → walk i k (going (begun job) b) ≡ going t c →
    (r : Register) × (access_of i t ≡ Read r)

abbrev pub OneToSixAccesses : Type 0
OneToSixAccesses = (i : ℕ) (b : Board) (job : Job) → (1 ≤ (whole i b job).accesses) × ((whole i b job).accesses ≤ 6)

-- a board that has another's setpoint, depth and pile, and nobody's signature
pub record UnsignedCopy (b c : Board) : Type 0 where
  pub same_setpoint : setpoint c ≡ setpoint b
  pub same_depth : depth c ≡ depth b
  pub same_pile : pile c ≡ pile b
  pub no_signer : signer c ≡ pos 0

-- after a trim that is done, an undo by any station is done, and takes the trim back
abbrev pub UndoTakesATrimBack : Type 0
UndoTakesATrimBack =
    (start n i j : ℕ) (b : Board) (p : ℤ) → Fit start n b → Proper (Trim p) → (whole i b (Trim p)).verdict ≡ Done →
    let o : Outcome = whole j (whole i b (Trim p)).board Undo in (o.verdict ≡ Done) × UnsignedCopy b o.board

-- between two jobs the setpoint is the start and the sum of the pile
abbrev pub SetpointIsStartPlusPile : Type 0
SetpointIsStartPlusPile = (start n : ℕ) (b : Board) → Fit start n b → setpoint b ≡ pos start +ℤ sum (pile b)

-- between two jobs the limits hold
abbrev pub LimitsBetweenJobs : Type 0
LimitsBetweenJobs = (start n : ℕ) (b : Board) → Fit start n b → Bounded n b

-- the first job can start from a fresh board
abbrev pub FreshIsFit : Type 0
FreshIsFit = (start n : ℕ) → start ≤ ceiling → Fit start n (fresh (pos start))
