-- The places of a job: a board with its limits, and a board that is left as it was.
use Rattle.std.proofs.Common.{◌≡◌, ℕ, ◌≤◌, List, ℤ, refl}
use Rattle.feed.specs.Board.{made}
use Rattle.feed.specs.Job.{ceiling, most_entries}
use Rattle.feed.specs.Task.{begun}
use Rattle.feed.specs.Course.{going, walk, Bounded, Settled, Fit, Underway}
use Rattle.feed.specs.declared.board.Board.{Board}
use Rattle.feed.specs.declared.job.Job.{Job}
use Rattle.feed.specs.declared.task.Task.{Task}

pub bounds : {n a k w : ℕ} {es : List ℤ} → a ≤ ceiling → k ≤ most_entries → w ≤ n → Bounded n (made a k w es)
bounds {n} {a} {k} {w} p q r = record { setpoint = (a, refl, p); depth = (k, refl, q); signer = (w, refl, r) }

pub at : {n i : ℕ} {b c : Board} {job : Job} {x : ℕ} (t : Task) → walk i x (going (begun job) b) ≡ going t c → Bounded n c →
    Underway n i b job x
at {n} {i} {b} {c} t e limits = record { task = t; board = c; is = e; bounded = limits }

module _ {start n a k w : ℕ} {es : List ℤ} (S : Settled start n a k w es) where
  pub settled_bounded : Bounded n (made a k w es)
  settled_bounded = bounds S.setpoint_most S.depth_most S.signer_most

  pub settled_fit : Fit start n (made a k w es)
  settled_fit = record { setpoint = a; depth = k; signer = w; entries = es; is = refl; settled = S }
