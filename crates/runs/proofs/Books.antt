-- The board at any moment keeps its limits; and with nobody inside it is the ledger's, in which nothing is lost.
use Rattle.std.proofs.Common.{◌≡◌, ℕ, List, length, pos, ◌+ℤ◌, nat_abs, Some, None, sym, ap, ◌∙◌, subst, arith}
use Rattle.lock.specs.declared.stage.Stage.TheVariants.{Inside}
use Rattle.lock.specs.Stages.{asked}
use Rattle.lock.specs.Meaning.{Meaning, Lawful}
use Rattle.lock.proofs.Moves.{asked_station}
use Rattle.feed.specs.Whole.{setpoint, depth, signer, pile, sum}
use Rattle.feed.specs.Board.{read}
use Rattle.feed.specs.Course.{Bounded}
use Rattle.feed.specs.declared.board.Board.{Board}
use Rattle.feed.specs.declared.board.Register.TheVariants.{Depth}
use Rattle.feed.proofs.Courses.{course}
use Rattle.feed.proofs.Fits.{fit_bounded, fit_sum}
use Rattle.feed.proofs.Steps.{bounded_now}
use Rattle.rack.specs.Calls.{board_answer}
use Rattle.rack.specs.declared.calls.Rack.{Rack}
use Rattle.runs.specs.declared.events.Event.{Event}
use Rattle.runs.specs.Ledger.{ledger}
use Rattle.runs.specs.Promise.{BooksAgree}
use Rattle.runs.proofs.Tests.{never}
use Rattle.runs.proofs.Good.{Middle, nobody, somebody}
use Rattle.runs.proofs.Views.{inside-shown}
use Rattle.runs.proofs.Moments.{Moment}

depth-read : {n : ℕ} (b : Board) → Bounded n b → read b Depth ≡ pos (depth b)
depth-read b B = let (x, is, _) = B.depth in is ∙ sym (ap (λ z. pos (nat_abs z)) is)

module _ {L : Type 0} (m : Meaning L) (laws : Lawful m) (lock : L) (start : ℕ) (es : List Event) (r : Rack L) (M : Moment m lock start es r) where
  abbrev n : ℕ
  n = length (m.stages lock)

  abbrev book : Board
  book = (ledger start es).board

  limits_of : Middle (m.stages r.lock) r.stations r.board (ledger start es) → Bounded n r.board
  limits_of (nobody none same) = subst (Bounded n) (sym same) (fit_bounded book M.fit)
  limits_of (somebody i here W) =
      let (least, high) = asked_station (m.stages r.lock) i Inside here in
      let number = M.fixed.number in
      let C = course start n i book W.job M.fit (omega arith) W.proper in
      bounded_now C W.made _ r.board W.not_all W.walked

  pub limits : Bounded n r.board
  limits = limits_of M.middle

  -- the station inside is shown
  pub shows : (i : ℕ) → asked (m.stages r.lock) i ≡ Some Inside → (board_answer m r).inside ≡ Some i
  shows i here =
      let (least, high) = asked_station (m.stages r.lock) i Inside here in
      let most = laws.most r.lock M.fixed.sound in
      inside-shown (m.stages r.lock) i here (λ j in_j. laws.exclusive r.lock j i M.fixed.sound in_j here) 16 least (omega arith)

  same_board : Middle (m.stages r.lock) r.stations r.board (ledger start es) → (board_answer m r).inside ≡ None → r.board ≡ book
  same_board (nobody none same) e = same
  same_board (somebody i here W) e = let shown = shows i here in never (cc)

  pub books_agree : (board_answer m r).inside ≡ None → BooksAgree m n start es r
  books_agree e =
      let same = same_board M.middle e in
      record {
        same_setpoint = ap setpoint same;
        same_depth = depth-read r.board limits ∙ ap (λ b. pos (depth b)) same;
        same_pile = ap pile same;
        same_signer = ap signer same;
        nothing_lost = subst (λ b. setpoint b ≡ pos start +ℤ sum (pile b)) (sym same) (fit_sum book M.fit);
      }
