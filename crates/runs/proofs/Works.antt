-- One access of a station's job keeps the invariant.
use Rattle.std.proofs.Common.{◌≡◌, ℕ, suc, ◌≤◌, List, length, Some, Ok, sym, refl, ap, ◌∙◌, subst, arith}
use Rattle.lock.specs.declared.stage.Stage.{Stage}
use Rattle.lock.specs.declared.stage.Stage.TheVariants.{Inside, Leaving}
use Rattle.lock.specs.Stages.{inside, asked}
use Rattle.lock.specs.Meaning.{Meaning, Lawful}
use Rattle.lock.proofs.Moves.{asked-moved, moved_same, asked_station}
use Rattle.feed.specs.Task.{board_after}
use Rattle.feed.specs.Whole.{Outcome, whole}
use Rattle.feed.specs.Course.{going, Fit, Course}
use Rattle.feed.proofs.Courses.{course}
use Rattle.feed.proofs.Steps.{goes_on, ends_here}
use Rattle.feed.specs.declared.board.Board.{Board}
use Rattle.feed.specs.declared.job.Verdict.{Verdict}
use Rattle.feed.specs.declared.task.Task.{Task}
use Rattle.std.specs.declared.ops.ControlFlow.TheVariants.{Continue, Break}
use Rattle.rack.specs.Calls.{kept, to_do, worked_by}
use Rattle.answers.specs.declared.Served.TheVariants.{Working, Ended}
use Rattle.rack.specs.declared.calls.Rack.{Rack}
use Rattle.runs.specs.declared.events.Event.TheVariants.{Slotted}
use Rattle.runs.specs.Ledger.{Ledger, do_whole}
use Rattle.runs.proofs.Tests.{never, cond_at}
use Rattle.runs.proofs.Stations.{kept_at}
use Rattle.runs.proofs.Heard.{Heard, heard}
use Rattle.runs.proofs.Fixed.{fixed_more}
use Rattle.runs.proofs.Good.{Known, Midway, nobody, somebody, Good}
use Rattle.runs.proofs.Middles.{Exclusive, midway_of, nobody_after}
use Rattle.runs.proofs.Changes.{altered}
use Rattle.runs.proofs.Slots.{slot_others, slot_known}

module _ {L : Type 0} (m : Meaning L) (laws : Lawful m) (lock : L) (start : ℕ) (h : Heard) (r : Rack L) (good : Good m lock start h r) where
  module _ (i : ℕ) (most : i ≤ 16) (here : asked (m.stages r.lock) i ≡ Some Inside) where
    abbrev s : List Stage
    s = m.stages r.lock

    abbrev g : Ledger
    g = h.ledger

    abbrev now : Board
    now = board_after i r.board (kept r i).task

    one : Exclusive s
    one j k in_j in_k = laws.exclusive r.lock j k good.fixed.sound in_j in_k

    known : Known h i (asked s i) (kept r i)
    known = good.agree.known i (asked_station s i Inside here)

    -- the job as far as it is done, and its course from start to end
    midway : Midway i g.board (g.noted i) (kept r i).task r.board
    midway = midway_of good.agree.middle one i here

    runs : Course start (length (m.stages lock)) i g.board midway.job (whole i g.board midway.job)
    runs =
        let (least, high) = asked_station s i Inside here in
        let number = good.fixed.number in
        course start (length (m.stages lock)) i g.board midway.job good.agree.fit (omega arith) midway.proper

    -- there is more to do
    pub working : (t : Task) → to_do r i ≡ Continue t → Good m lock start (heard h (Slotted i (Ok Working))) (worked_by m r i (Continue t))
    working t e =
        let (less, w) = goes_on runs midway.made (kept r i).task r.board midway.not_all midway.walked t e in
        let st = asked_station s i Inside here in
        let task-is = ap (λ z. z.task) (kept_at r.stations i _ st.0 good.agree.size most) in
        let further : Midway i g.board (g.noted i) (kept (worked_by m r i (Continue t)) i).task now =
        record {
          job = midway.job;
          is_noted = midway.is_noted;
          proper = midway.proper;
          made = suc midway.made;
          not_all = less;
          walked = w ∙ ap (λ z. going z now) (sym task-is);
        }
        in
        altered m lock start h r i (Slotted i (Ok Working)) good
        record {
          here = here;
          most = most;
          fixed = good.fixed;
          moves = sym (moved_same s i Inside here);
          others = slot_others h i Working;
          known = slot_known h i Working known refl known.last_is (λ w. never (cc));
          fit = good.agree.fit;
          middle = somebody i (asked-moved s i Inside st) further;
          pays = refl;
        }

    -- that was the last access: the board is the one that the ledger has after doing the job whole
    pub ended : (v : Verdict) → to_do r i ≡ Break v → Good m lock start (heard h (Slotted i (Ok (Ended v)))) (worked_by m r i (Break v))
    ended v e =
        let o : Outcome = whole i g.board midway.job in
        let (_, same_verdict, same_board) = ends_here runs midway.made (kept r i).task r.board midway.not_all midway.walked v e in
        let noted = midway.is_noted in
        let moves = laws.ends r.lock i good.fixed.sound (ap inside here) in
        altered m lock start h r i (Slotted i (Ok (Ended v))) good
        record {
          here = here;
          most = most;
          fixed = fixed_more m lock good.fixed (laws.ended_kept r.lock i good.fixed.sound) i Leaving moves;
          moves = moves;
          others = slot_others h i (Ended v);
          known = slot_known h i (Ended v) known refl
              (ap Some same_verdict ∙ sym (cond_at i (Some o.verdict) (g.last i)) ∙ sym (ap (λ z. (do_whole g i z).last i) noted)) (λ w. never (cc));
          fit = subst (λ z. Fit start (length (m.stages lock)) (do_whole g i z).board) (sym noted) runs.fit;
          middle = nobody (nobody_after s i Inside Leaving here refl (λ c. never (cc)) one) (same_board ∙ sym (ap (λ z. (do_whole g i z).board) noted));
          pays = refl;
        }
