-- An undo takes back the trim before it.
use Rattle.std.proofs.Common.{◌≡◌, ℕ, suc, ◌<◌, Bool, true, false, cond, eqb, List, length, set, ℤ, pos, ◌+ℤ◌, sym, refl, subst, arith}
use Rattle.std.proofs.lemmas.Bool.{eqb-false, ne_eqb}
use Rattle.feed.specs.Board.{made}
use Rattle.feed.specs.Job.{most_entries}
use Rattle.feed.specs.Whole.{Outcome, outcome, whole, difference, pushed, popped}
use Rattle.feed.specs.Course.{Settled, Fit, Proper}
use Rattle.feed.specs.Laws.{UnsignedCopy}
use Rattle.feed.specs.declared.board.Board.{Board}
use Rattle.feed.specs.declared.job.Job.TheVariants.{Trim, Undo}
use Rattle.feed.specs.declared.job.Verdict.TheVariants.{Done, PileFull, OverCeiling, NothingToUndo}
use Rattle.feed.proofs.Differences.{Trimmed, trimmed}
use Rattle.feed.proofs.Piles.{newest_undone, entries-set}
use Rattle.feed.proofs.Changes.{pushed-made, popped-made}

-- an outcome that is done, and leaves the board b but for the signature
abbrev Restores : Board → Outcome → Type 0
Restores b o = (o.verdict ≡ Done) × UnsignedCopy b o.board

-- a trim by p permille, and an undo by station j
module _ {start n a k w : ℕ} {es : List ℤ} (S : Settled start n a k w es) (p : ℤ) (j : ℕ) where
  abbrev old : Board
  old = made a k w es

  abbrev d : ℤ
  d = difference (pos a) p

  -- b is the setpoint between the two
  restored : (b : ℕ) → pos a +ℤ d ≡ pos b → k < most_entries → Restores old (whole j (pushed old d) Undo)
  restored b e less =
      let fs : List ℤ = set es k d in
      let between : Board = made b (suc k) 0 fs in
      let there : k < length es = omega arith in
      let copy : UnsignedCopy old (made a k 0 fs) =
      record { same_setpoint = refl; same_depth = refl; same_pile = entries-set a k w a k 0 es k d k (omega arith) less; no_signer = refl } in
      let taken : Restores old (outcome (popped between) Done 6) =
      (refl, subst (UnsignedCopy old) (sym (popped-made b k 0 fs a less (newest_undone es d k a b there e))) copy) in
      subst (λ c. Restores old (whole j c Undo)) (sym (pushed-made a k w es d b less e))
      (subst (λ t. Restores old (cond t (outcome between NothingToUndo 1) (outcome (popped between) Done 6))) (sym (ne_eqb (suc k) 0 (λ z. omega arith))) taken)

  by_tests : Trimmed a p → (full over : Bool) → eqb k most_entries ≡ full →
      let o : Outcome = cond full (outcome old PileFull 2) (cond over (outcome old OverCeiling 2) (outcome (pushed old d) Done 6)) in
      o.verdict ≡ Done → Restores old (whole j o.board Undo)
  by_tests T true over e v = let z : ◌≡◌ {A = ℕ} 0 1 = cc in absurd (omega arith)
  by_tests T false true e v = let z : ◌≡◌ {A = ℕ} 0 1 = cc in absurd (omega arith)
  by_tests T false false e v = let x = eqb-false k 64 e in restored T.to T.sum (omega arith)

pub trim_taken_back : (start n i j : ℕ) (b : Board) (p : ℤ) → Fit start n b → Proper (Trim p) → (whole i b (Trim p)).verdict ≡ Done →
    Restores b (whole j (whole i b (Trim p)).board Undo)
trim_taken_back start n i j b p f (least, most) =
    subst (λ x. (whole i x (Trim p)).verdict ≡ Done → Restores x (whole j (whole i x (Trim p)).board Undo)) (sym f.is)
    (by_tests f.settled p j (trimmed f.setpoint p f.settled.setpoint_most most) _ _ refl)
