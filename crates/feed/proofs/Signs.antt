-- The accesses of a sign in a row do it whole.
use Rattle.std.proofs.Common.{◌≡◌, ℕ, ◌≤◌, Bool, true, false, cond, List, ℤ, pos, refl, ap, below_none, below_more}
use Rattle.feed.specs.Board.{made, write}
use Rattle.feed.specs.Job.{same}
use Rattle.feed.specs.Whole.{outcome, whole}
use Rattle.feed.specs.Course.{going, on, next, walk, Settled, Underway, Course}
use Rattle.feed.specs.declared.board.Board.{Board}
use Rattle.feed.specs.declared.board.Register.TheVariants.{Signer}
use Rattle.feed.specs.declared.job.Job.TheVariants.{Sign}
use Rattle.feed.specs.declared.job.Verdict.TheVariants.{Done, SetpointDiffers}
use Rattle.feed.specs.declared.task.Task.TheVariants.{SignReadSetpoint, SignWriteSigner}
use Rattle.std.specs.declared.ops.ControlFlow.TheVariants.{Continue, Break}
use Rattle.feed.proofs.Places.{at, settled_bounded, settled_fit}

module _ {start n i a k w : ℕ} {es : List ℤ} (S : Settled start n a k w es) (l : i ≤ n) (v : ℤ) where
  abbrev old : Board
  old = made a k w es

  abbrev Under : ℕ → Type 0
  Under = Underway n i old (Sign v)

  by_test : (t : Bool) → same (pos a) v ≡ t → Course start n i old (Sign v) (cond t (outcome (write old Signer (pos i)) Done 2) (outcome old SetpointDiffers 1))
  by_test true e =
      let w1 : walk i 1 (going (SignReadSetpoint v) old) ≡ going SignWriteSigner old =
      ap (λ t. on (cond t (Continue SignWriteSigner) (Break SetpointDiffers)) old) e in
      record {
        underway =
            below_more Under 1 (below_more Under 0 (below_none Under) (at (SignReadSetpoint v) refl (settled_bounded S)))
            (at SignWriteSigner w1 (settled_bounded S));
        ends = ap (next i) w1;
        fit =
            settled_fit (record {
              setpoint_most = S.setpoint_most;
              depth_most = S.depth_most;
              signer_most = l;
              size = S.size;
              undoable = S.undoable;
            });
      }
  by_test false e =
      record {
        underway = below_more Under 0 (below_none Under) (at (SignReadSetpoint v) refl (settled_bounded S));
        ends = ap (λ t. on (cond t (Continue SignWriteSigner) (Break SetpointDiffers)) old) e;
        fit = settled_fit S;
      }

  pub sign_course : Course start n i old (Sign v) (whole i old (Sign v))
  sign_course = by_test _ refl
