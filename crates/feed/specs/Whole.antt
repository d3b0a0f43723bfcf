-- A job done whole: its accesses with nothing between.
use Rattle.std.specs.Prelude.{ℕ, zero, suc, ◌+◌, ◌-◌, cond, List, [], ◌∷◌, ◌++◌, ℤ, pos, ◌+ℤ◌, ◌-ℤ◌, ◌*ℤ◌, ◌==◌, int_lt, unsigned_abs}
use Rattle.feed.specs.Board.{read, write}
use Rattle.feed.specs.Job.{ceiling, most_entries, thousandth, same}
use Rattle.feed.specs.declared.board.Board.{Board}
use Rattle.feed.specs.declared.board.Register.TheVariants.{Setpoint, Depth, Signer, Entry}
use Rattle.feed.specs.declared.job.Job.{Job}
use Rattle.feed.specs.declared.job.Job.TheVariants.{Trim, Undo, Sign}
use Rattle.feed.specs.declared.job.Verdict.{Verdict}
use Rattle.feed.specs.declared.job.Verdict.TheVariants.{Done, PileFull, OverCeiling, NothingToUndo, SetpointDiffers}

abbrev pub setpoint : Board → ℤ
setpoint b = read b Setpoint

abbrev pub depth : Board → ℕ
depth b = unsigned_abs (read b Depth)

abbrev pub signer : Board → ℤ
signer b = read b Signer

abbrev pub entry : Board → ℕ → ℤ
entry b k = read b (Entry (pos k))

-- entries 1 to k, newest last
abbrev pub entries : Board → ℕ → List ℤ
entries b zero = []
entries b (suc k) = entries b k ++ entry b (suc k) ∷ []

abbrev pub pile : Board → List ℤ
pile b = entries b (depth b)

abbrev pub sum : List ℤ → ℤ
sum [] = pos 0
sum (d ∷ ds) = d +ℤ sum ds

-- what a trim by p permille adds to the setpoint a
abbrev pub difference : ℤ → ℤ → ℤ
difference a p = thousandth (a *ℤ p)

-- the board with one more entry, the setpoint moved by it, and nobody's signature
abbrev pub pushed : Board → ℤ → Board
pushed b d =
    write (write (write (write b (Entry (pos (depth b + 1))) d) Depth (pos (depth b + 1))) Setpoint (setpoint b +ℤ d)) Signer (pos 0)

-- the board without its newest entry, the setpoint moved back by it, and nobody's signature
abbrev pub popped : Board → Board
popped b = write (write (write b Depth (pos (depth b - 1))) Setpoint (setpoint b -ℤ entry b (depth b))) Signer (pos 0)

-- what a job gives: the board, the verdict and the number of its accesses
pub record Outcome : Type 0 where
  pub board : Board
  pub verdict : Verdict
  pub accesses : ℕ

abbrev pub outcome : Board → Verdict → ℕ → Outcome
outcome b v n = record { board = b; verdict = v; accesses = n }

-- a job of station i, done whole
abbrev pub whole : ℕ → Board → Job → Outcome
whole i b (Trim p) =
    cond (depth b == most_entries) (outcome b PileFull 2)
    (cond (int_lt (pos ceiling) (setpoint b +ℤ difference (setpoint b) p)) (outcome b OverCeiling 2)
    (outcome (pushed b (difference (setpoint b) p)) Done 6))
whole i b Undo = cond (depth b == 0) (outcome b NothingToUndo 1) (outcome (popped b) Done 6)
whole i b (Sign v) = cond (same (setpoint b) v) (outcome (write b Signer (pos i)) Done 2) (outcome b SetpointDiffers 1)
