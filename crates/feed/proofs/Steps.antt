-- One access more of a job under way, by what the access leaves to do.
use Rattle.std.proofs.Common.{◌≡◌, ℕ, suc, ◌<◌, sym, ap, ◌∙◌, subst, inl, inr, arith}
use Rattle.std.proofs.lemmas.Bool.{cases_lt}
use Rattle.feed.specs.Task.{Progress, begun, board_after, left_to_do}
use Rattle.feed.specs.Whole.{Outcome}
use Rattle.feed.specs.Course.{going, done, on, next, walk, Bounded, Course}
use Rattle.feed.specs.declared.board.Board.{Board}
use Rattle.feed.specs.declared.job.Job.{Job}
use Rattle.feed.specs.declared.job.Verdict.{Verdict}
use Rattle.feed.specs.declared.task.Task.{Task}
use Rattle.std.specs.declared.ops.ControlFlow.TheVariants.{Continue, Break}

-- a job makes an access
pub some_access : {start n i : ℕ} {b : Board} {job : Job} {o : Outcome} → Course start n i b job o → 0 < o.accesses
some_access {start} {n} {i} {b} {job} {o} C = elim (cases_lt 0 o.accesses) [
  | inl lt ↦ lt
  | inr ge ↦
      (let q : o.accesses ≡ 0 = omega arith in
      let c : going (begun job) b ≡ done o.verdict o.board = ap (λ z. walk i z (going (begun job) b)) (sym q) ∙ C.ends in
      let z : ◌≡◌ {A = ℕ} 0 1 = cc in absurd (omega arith))
]

-- after k accesses the task is t, and the board is now
module _ {start n i : ℕ} {b : Board} {job : Job} {o : Outcome} (C : Course start n i b job o) (k : ℕ) (t : Task) (now : Board) (less : k < o.accesses) (walked : walk i k (going (begun job) b) ≡ going t now) where
  -- the board keeps the limits
  pub bounded_now : Bounded n now
  bounded_now =
      let u = C.underway k less in
      let c = sym u.is ∙ walked in
      let e : u.board ≡ now = cc in
      subst (Bounded n) e u.bounded

  stepped : (p : Progress) → left_to_do i now t ≡ p → walk i (suc k) (going (begun job) b) ≡ on p (board_after i now t)
  stepped p e = ap (next i) walked ∙ ap (λ z. on z (board_after i now t)) e

  pub goes_on : (t' : Task) → left_to_do i now t ≡ Continue t' → (suc k < o.accesses) × (walk i (suc k) (going (begun job) b) ≡ going t' (board_after i now t))
  goes_on t' e =
      let w : walk i (suc k) (going (begun job) b) ≡ going t' (board_after i now t) = stepped (Continue t') e in
      elim (cases_lt (suc k) o.accesses) [
        | inl lt ↦ (lt, w)
        | inr ge ↦
            (let q : o.accesses ≡ suc k = omega arith in
            let c : going t' (board_after i now t) ≡ done o.verdict o.board = sym w ∙ ap (λ z. walk i z (going (begun job) b)) (sym q) ∙ C.ends in
            let z : ◌≡◌ {A = ℕ} 0 1 = cc in absurd (omega arith))
      ]

  pub ends_here : (v : Verdict) → left_to_do i now t ≡ Break v → (o.accesses ≡ suc k) × (v ≡ o.verdict) × (board_after i now t ≡ o.board)
  ends_here v e =
      let w : walk i (suc k) (going (begun job) b) ≡ done v (board_after i now t) = stepped (Break v) e in
      elim (cases_lt (suc k) o.accesses) [
        | inl lt ↦
            (let u = C.underway (suc k) lt in
            let c : done v (board_after i now t) ≡ going u.task u.board = sym w ∙ u.is in
            let z : ◌≡◌ {A = ℕ} 0 1 = cc in absurd (omega arith))
        | inr ge ↦
            (let q : o.accesses ≡ suc k = omega arith in
            let c : done v (board_after i now t) ≡ done o.verdict o.board = sym w ∙ ap (λ z. walk i z (going (begun job) b)) (sym q) ∙ C.ends in
            (q, cc, cc))
      ]
