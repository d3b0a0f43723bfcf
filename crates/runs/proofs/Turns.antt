-- A turn of the lock keeps the invariant.
use Rattle.std.proofs.Common.{◌≡◌, ℕ, ◌+◌, ◌≤◌, List, length, Some, Ok, sym, refl, ap, ◌∙◌, subst, arith}
use Rattle.lock.specs.declared.stage.Stage.{Stage}
use Rattle.lock.specs.declared.stage.Stage.TheVariants.{Rest, Trying, Inside, Leaving}
use Rattle.lock.specs.Stages.{asked, moved}
use Rattle.lock.specs.Meaning.{Meaning, Lawful}
use Rattle.lock.proofs.Moves.{asked-moved, asked_station}
use Rattle.feed.specs.Course.{going, Fit}
use Rattle.feed.proofs.Courses.{course}
use Rattle.feed.proofs.Steps.{some_access}
use Rattle.rack.specs.Calls.{kept, turned_rack}
use Rattle.answers.specs.declared.Served.{Served}
use Rattle.answers.specs.declared.Served.TheVariants.{StillTrying, NowInside, StillLeaving, NowResting}
use Rattle.rack.specs.declared.calls.Rack.{Rack}
use Rattle.runs.specs.declared.events.Event.TheVariants.{Slotted}
use Rattle.runs.specs.Told.{ending, tries, works, tells}
use Rattle.runs.specs.Ledger.{Ledger, served}
use Rattle.runs.proofs.Tests.{never}
use Rattle.runs.proofs.Stations.{kept_at}
use Rattle.runs.proofs.Heard.{Heard, heard}
use Rattle.runs.proofs.Fixed.{fixed_more}
use Rattle.runs.proofs.Good.{Waiting, Known, Midway, Middle, somebody, Good}
use Rattle.runs.proofs.Middles.{Exclusive, book_is, middle_aside, nobody_before}
use Rattle.runs.proofs.Changes.{altered}
use Rattle.runs.proofs.Slots.{slot_others, slot_known}
use Rattle.runs.proofs.Tallies.{bit}

module _ {L : Type 0} (m : Meaning L) (laws : Lawful m) (lock : L) (start : ℕ) (h : Heard) (r : Rack L) (good : Good m lock start h r) (i : ℕ) (most : i ≤ 16) where
  abbrev s : List Stage
  s = m.stages r.lock

  abbrev g : Ledger
  g = h.ledger

  abbrev then : L
  then = m.turned r.lock i

  module _ (was : Stage) (here : asked s i ≡ Some was) where
    known : Known h i (asked s i) (kept r i)
    known = good.agree.known i (asked_station s i was here)

    -- a turn that is answered by a, which leaves the ledger as it is
    turn : (a : Served) → m.stages then ≡ moved s i (tells a) → served g i a ≡ g → (tells a ≡ Trying → was ≡ Trying) →
        0 + bit (tries was) + bit (works was) ≡ ending a + bit (tries (tells a)) + bit (works (tells a)) →
        Middle (moved s i (tells a)) (turned_rack m r i).stations r.board g → Good m lock start (heard h (Slotted i (Ok a))) (turned_rack m r i)
    turn a moves same still pays middle =
        let stage_is = known.stage_is in
        altered m lock start h r i (Slotted i (Ok a)) good
        record {
          here = here;
          most = most;
          fixed = fixed_more m lock good.fixed (laws.turned_kept r.lock i good.fixed.sound) i (tells a) moves;
          moves = moves;
          others = slot_others h i a;
          known = slot_known h i a known refl (known.last_is ∙ ap (λ z. z.last i) (sym same))
              (λ t. subst (λ z. Waiting (z.noted i) (kept r i).task) (sym same) (known.waiting (let w = still t in cc)));
          fit = subst (λ z. Fit start (length (m.stages lock)) z.board) (sym same) good.agree.fit;
          middle = subst (Middle (moved s i (tells a)) (turned_rack m r i).stations r.board) (sym same) middle;
          pays = pays;
        }

    aside : (is : Stage) → (was ≡ Inside → ⊥) → (is ≡ Inside → ⊥) → Middle (moved s i is) (turned_rack m r i).stations r.board g
    aside is out out' = middle_aside s i was is here _ out out' refl (λ j ne. refl) good.agree.middle

  module _ (here : asked s i ≡ Some Trying) where
    pub still_trying : m.stages then ≡ moved s i Trying → Good m lock start (heard h (Slotted i (Ok StillTrying))) (turned_rack m r i)
    still_trying e = turn Trying here StillTrying e refl (λ t. refl) refl (aside Trying here Trying (λ c. never (cc)) (λ c. never (cc)))

    -- nobody was inside before, so the waiting job starts on the ledger's board
    starts : m.stages then ≡ moved s i Inside → Midway i g.board (g.noted i) (kept (turned_rack m r i) i).task r.board
    starts e =
        let sound = (laws.turned_kept r.lock i good.fixed.sound).sound in
        let one : Exclusive (moved s i Inside) = subst Exclusive e (λ j k in_j in_k. laws.exclusive then j k sound in_j in_k) in
        let same = book_is good.agree.middle (nobody_before s i Trying Inside here (λ c. never (cc)) one) in
        let (least, high) = asked_station s i Trying here in
        let K = known Trying here in
        let stage_is = K.stage_is in
        let W = K.waiting (cc) in
        let number = good.fixed.number in
        let C = course start (length (m.stages lock)) i g.board W.job good.agree.fit (omega arith) W.proper in
        let task-is = ap (λ z. z.task) (kept_at r.stations i _ least good.agree.size most) ∙ W.at_start in
        record {
          job = W.job;
          is_noted = W.is_noted;
          proper = W.proper;
          made = 0;
          not_all = some_access C;
          walked = ap (λ t. going t g.board) (sym task-is) ∙ ap (going (kept (turned_rack m r i) i).task) (sym same);
        }

    pub now-inside : m.stages then ≡ moved s i Inside → Good m lock start (heard h (Slotted i (Ok NowInside))) (turned_rack m r i)
    now-inside e =
        turn Trying here NowInside e refl (λ t. never (cc)) refl (somebody i (asked-moved s i Inside (asked_station s i Trying here)) (starts e))

  module _ (here : asked s i ≡ Some Leaving) where
    pub still_leaving : m.stages then ≡ moved s i Leaving → Good m lock start (heard h (Slotted i (Ok StillLeaving))) (turned_rack m r i)
    still_leaving e = turn Leaving here StillLeaving e refl (λ t. never (cc)) refl (aside Leaving here Leaving (λ c. never (cc)) (λ c. never (cc)))

    pub now-resting : m.stages then ≡ moved s i Rest → Good m lock start (heard h (Slotted i (Ok NowResting))) (turned_rack m r i)
    now-resting e = turn Leaving here NowResting e refl (λ t. never (cc)) refl (aside Leaving here Rest (λ c. never (cc)) (λ c. never (cc)))
