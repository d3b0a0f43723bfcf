-- The accesses of an undo in a row do it whole.
use Rattle.std.proofs.Common.{◌≡◌, ℕ, zero, suc, ◌<◌, cond, List, get_or, ℤ, pos, ◌-ℤ◌, sym, refl, ap, ◌∙◌, subst, arith, below_none, below_more}
use Rattle.std.specs.Int.{saturate_to_bits}
use Rattle.std.proofs.lemmas.Int.{ints}
use Rattle.std.proofs.lemmas.Bool.{ne_eqb, le-ltb}
use Rattle.feed.specs.Board.{made}
use Rattle.feed.specs.Job.{most_entries}
use Rattle.feed.specs.Whole.{outcome, whole, popped}
use Rattle.feed.specs.Course.{Doing, going, done, on, next, walk, Settled, Fit, Underway, Course}
use Rattle.feed.specs.declared.board.Board.{Board}
use Rattle.feed.specs.declared.job.Job.TheVariants.{Undo}
use Rattle.feed.specs.declared.job.Verdict.TheVariants.{Done, NothingToUndo}
use Rattle.feed.specs.declared.task.Task.TheVariants.{UndoReadDepth, UndoReadEntry, UndoReadSetpoint, UndoWriteDepth, UndoWriteSetpoint, UndoClearSigner}
use Rattle.std.specs.declared.ops.ControlFlow.TheVariants.{Continue, Break}
use Rattle.feed.proofs.Differences.{unsaturated}
use Rattle.feed.proofs.Entries.{entry_read}
use Rattle.feed.proofs.Changes.{popped-made}
use Rattle.feed.proofs.Places.{bounds, at, settled_bounded, settled_fit}

-- with entries 1 to j + 1 in the pile
module _ (i : ℕ) {start n a j w : ℕ} {es : List ℤ} (S : Settled start n a (suc j) w es) where
  abbrev old : Board
  old = made a (suc j) w es

  abbrev Under : ℕ → Type 0
  Under = Underway n i old Undo

  undoes : Course start n i old Undo (outcome (popped old) Done 6)
  undoes =
      let (b, e, most, below) = S.undoable in
      let d : ℤ = get_or es j (pos 0) in
      let there : j < most_entries = omega arith in
      let total : saturate_to_bits 31 (pos a -ℤ d) ≡ pos b = ap (saturate_to_bits 31) e ∙ unsaturated (pos b) (omega arith) in
      let s : Doing = going UndoReadDepth old in
      let w1 : walk i 1 s ≡ going (UndoReadEntry (pos (suc j)) (pos j)) old =
      ap (λ t. on (cond t (Break NothingToUndo) (Continue (UndoReadEntry (pos (suc j)) (pos (suc j) -ℤ pos 1)))) old) (le-ltb (suc j) 1 (omega arith)) ∙
      ap (λ x. going (UndoReadEntry (pos (suc j)) x) old) (omega (arith, ints)) in
      let w2 : walk i 2 s ≡ going (UndoReadSetpoint (pos j) d) old =
      ap (next i) w1 ∙ ap (λ x. going (UndoReadSetpoint (pos j) x) old) (entry_read a (suc j) w es j there) in
      let w3 : walk i 3 s ≡ going (UndoWriteDepth (pos j) (pos b)) old = ap (next i) w2 ∙ ap (λ x. going (UndoWriteDepth (pos j) x) old) total in
      let w4 : walk i 4 s ≡ going (UndoWriteSetpoint (pos b)) (made a j w es) = ap (next i) w3 in
      let w5 : walk i 5 s ≡ going UndoClearSigner (made b j w es) = ap (next i) w4 in
      let new : popped old ≡ made b j 0 es = popped-made a j w es b there e in
      let still = settled_bounded S in
      record {
        underway =
            below_more Under 5
            (below_more Under 4
            (below_more Under 3
            (below_more Under 2
            (below_more Under 1 (below_more Under 0 (below_none Under) (at UndoReadDepth refl still)) (at _ w1 still))
            (at _ w2 still))
            (at _ w3 still))
            (at _ w4 (bounds S.setpoint_most (omega arith) S.signer_most)))
            (at _ w5 (bounds most (omega arith) S.signer_most));
        ends = ap (next i) w5 ∙ ap (done Done) (sym new);
        fit =
            subst (Fit start n) (sym new)
            (settled_fit (record { setpoint_most = most; depth_most = omega arith; signer_most = omega arith; size = S.size; undoable = below }));
      }

pub undo_course : (i : ℕ) {start n a w : ℕ} {es : List ℤ} (k : ℕ) → Settled start n a k w es → Course start n i (made a k w es) Undo (whole i (made a k w es) Undo)
undo_course i {start} {n} {a} {w} {es} zero S =
    let Under = Underway n i (made a 0 w es) Undo in
    record { underway = below_more Under 0 (below_none Under) (at UndoReadDepth refl (settled_bounded S)); ends = refl; fit = settled_fit S }
undo_course i {start} {n} {a} {w} {es} (suc j) S =
    let old = made a (suc j) w es in
    subst (λ t. Course start n i old Undo (cond t (outcome old NothingToUndo 1) (outcome (popped old) Done 6)))
    (sym (ne_eqb (suc j) 0 (λ z. omega arith))) (undoes i S)
