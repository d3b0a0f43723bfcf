-- The accesses of a trim in a row do it whole.
use Rattle.std.proofs.Common.{◌≡◌, ℕ, suc, ◌+◌, ◌<◌, ◌≤◌, Bool, true, false, cond, eqb, ltb, leb, List, set, ℤ, pos, ◌+ℤ◌, nat_abs, sym, refl, ap, ◌∙◌, subst, arith, below_none, below_more}
use lib.Signed.{lt_z}
use Rattle.std.proofs.lemmas.List.{length-set}
use Rattle.std.proofs.lemmas.Bool.{cond-true, cond-false, eqb-true, eqb-false, le-leb, lt-leb, ltb-false}
use Rattle.feed.specs.Board.{made}
use Rattle.feed.specs.Job.{ceiling, most_entries}
use Rattle.feed.specs.Task.{judged}
use Rattle.feed.specs.Whole.{outcome, whole, difference, pushed}
use Rattle.feed.specs.Course.{Doing, going, done, on, next, walk, Settled, Fit, Underway, Course}
use Rattle.feed.specs.declared.board.Board.{Board}
use Rattle.feed.specs.declared.job.Job.TheVariants.{Trim}
use Rattle.feed.specs.declared.job.Verdict.{Verdict}
use Rattle.feed.specs.declared.job.Verdict.TheVariants.{Done, PileFull, OverCeiling}
use Rattle.feed.specs.declared.task.Task.TheVariants.{TrimReadSetpoint, TrimReadDepth, TrimWriteEntry, TrimWriteDepth, TrimWriteSetpoint, TrimClearSigner}
use Rattle.std.specs.declared.ops.ControlFlow.TheVariants.{Continue, Break}
use Rattle.feed.proofs.Differences.{Trimmed, trimmed}
use Rattle.feed.proofs.Entries.{entry-written}
use Rattle.feed.proofs.Piles.{undoable_push}
use Rattle.feed.proofs.Changes.{pushed-made}
use Rattle.feed.proofs.Places.{bounds, at, settled_bounded, settled_fit}

-- a trim by p permille
module _ (i : ℕ) {start n a k w : ℕ} {es : List ℤ} (S : Settled start n a k w es) (p : ℤ) where
  abbrev old : Board
  old = made a k w es

  abbrev begin : Doing
  begin = going (TrimReadSetpoint p) old

  abbrev Under : ℕ → Type 0
  Under = Underway n i old (Trim p)

  reads : (x : ℕ) → x < 2 → Under x
  reads =
      below_more Under 1 (below_more Under 0 (below_none Under) (at (TrimReadSetpoint p) refl (settled_bounded S)))
      (at (TrimReadDepth p (pos a)) refl (settled_bounded S))

  refused : (v : Verdict) → judged p (pos a) (pos k) ≡ Break v → Course start n i old (Trim p) (outcome old v 2)
  refused v e = record { underway = reads; ends = ap (λ g. on g old) e; fit = settled_fit S }

  -- b is the new setpoint
  trims : (d : ℤ) (b : ℕ) → pos a +ℤ d ≡ pos b → b ≤ ceiling → k < most_entries →
      judged p (pos a) (pos k) ≡ Continue (TrimWriteEntry (pos (suc k)) d (pos b)) → Course start n i old (Trim p) (outcome (pushed old d) Done 6)
  trims d b e most less j =
      let fs : List ℤ = set es k d in
      let w2 : walk i 2 begin ≡ going (TrimWriteEntry (pos (suc k)) d (pos b)) old = ap (λ g. on g old) j in
      let w3 : walk i 3 begin ≡ going (TrimWriteDepth (pos (suc k)) (pos b)) (made a k w fs) =
      ap (next i) w2 ∙ ap (going (TrimWriteDepth (pos (suc k)) (pos b))) (entry-written a k w es k less d) in
      let w4 : walk i 4 begin ≡ going (TrimWriteSetpoint (pos b)) (made a (suc k) w fs) = ap (next i) w3 in
      let w5 : walk i 5 begin ≡ going TrimClearSigner (made b (suc k) w fs) = ap (next i) w4 in
      let new : pushed old d ≡ made b (suc k) 0 fs = pushed-made a k w es d b less e in
      record {
        underway =
            below_more Under 5
            (below_more Under 4
            (below_more Under 3 (below_more Under 2 reads (at _ w2 (settled_bounded S))) (at _ w3 (bounds S.setpoint_most S.depth_most S.signer_most)))
            (at _ w4 (bounds S.setpoint_most less S.signer_most)))
            (at _ w5 (bounds most less S.signer_most));
        ends = ap (next i) w5 ∙ ap (done Done) (sym new);
        fit =
            subst (Fit start n) (sym new)
            (settled_fit (record {
              setpoint_most = most;
              depth_most = less;
              signer_most = omega arith;
              size = length-set es k d ∙ S.size;
              undoable = undoable_push start es d k a b (omega arith) S.setpoint_most e S.undoable;
            }));
      }

  abbrev d : ℤ
  d = difference (pos a) p

  by_tests : Trimmed a p → (full over : Bool) → eqb k most_entries ≡ full → lt_z (pos ceiling) (pos a +ℤ d) ≡ over →
      Course start n i old (Trim p) (cond full (outcome old PileFull 2) (cond over (outcome old OverCeiling 2) (outcome (pushed old d) Done 6)))
  by_tests T true over e f =
      let x = eqb-true k 64 e in
      refused PileFull (T.judges (pos k) ∙ cond-true (leb 64 k) _ _ (le-leb 64 k (omega arith)))
  by_tests T false true e f =
      let x = eqb-false k 64 e in
      let high : ltb ceiling T.to ≡ true = sym (ap (lt_z (pos ceiling)) T.sum) ∙ f in
      refused OverCeiling (T.judges (pos k) ∙ cond-false (leb 64 k) _ _ (lt-leb 64 k (omega arith)) ∙ cond-true (ltb ceiling T.to) _ _ high)
  by_tests T false false e f =
      let x = eqb-false k 64 e in
      let low : ltb ceiling T.to ≡ false = sym (ap (lt_z (pos ceiling)) T.sum) ∙ f in
      let one : k + 1 ≡ suc k = omega arith in
      trims d T.to T.sum (ltb-false ceiling T.to low) (omega arith)
      (T.judges (pos k) ∙ cond-false (leb 64 k) _ _ (lt-leb 64 k (omega arith)) ∙ cond-false (ltb ceiling T.to) _ _ low ∙
      ap (λ x. Continue (TrimWriteEntry (pos x) d (pos T.to))) one)

  pub trim_course : nat_abs p ≤ 200 → Course start n i old (Trim p) (whole i old (Trim p))
  trim_course h = by_tests (trimmed a p S.setpoint_most h) _ _ refl refl
