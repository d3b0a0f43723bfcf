-- A board between two jobs keeps the limits, and its setpoint is the start and the sum of its pile; a fresh board is one.
use Rattle.std.proofs.Common.{◌≡◌, ℕ, ◌≤◌, replicate, pos, ◌+ℤ◌, sym, refl, subst, arith}
use Rattle.feed.specs.Board.{fresh}
use Rattle.feed.specs.Job.{ceiling, most_entries}
use Rattle.feed.specs.Whole.{setpoint, pile, sum}
use Rattle.feed.specs.Course.{Bounded, Fit}
use Rattle.feed.specs.declared.board.Board.{Board}
use Rattle.feed.proofs.Piles.{undoable_sum}
use Rattle.feed.proofs.Places.{settled_bounded}

pub fit_bounded : {start n : ℕ} (b : Board) → Fit start n b → Bounded n b
fit_bounded {start} {n} b f = subst (Bounded n) (sym f.is) (settled_bounded f.settled)

pub fit_sum : {start n : ℕ} (b : Board) → Fit start n b → setpoint b ≡ pos start +ℤ sum (pile b)
fit_sum {start} b f =
    subst (λ x. setpoint x ≡ pos start +ℤ sum (pile x)) (sym f.is)
    (undoable_sum f.setpoint f.depth f.signer start f.entries f.depth f.setpoint f.settled.depth_most f.settled.undoable)

pub fit_fresh : (start n : ℕ) → start ≤ ceiling → Fit start n (fresh (pos start))
fit_fresh start n h =
    record {
      setpoint = start;
      depth = 0;
      signer = 0;
      entries = replicate most_entries (pos 0);
      is = refl;
      settled = record { setpoint_most = h; depth_most = omega arith; signer_most = omega arith; size = refl; undoable = refl };
    }
