-- One slot of a lone order's station, in each of its phases.
use Rattle.std.proofs.Common.{◌≡◌, ℕ, suc, ◌-◌, ◌≤◌, List, get_or, Some, sym, ap, ◌∙◌, inl, inr, arith}
use Rattle.std.proofs.lemmas.List.{length-set}
use Rattle.lock.specs.declared.stage.Stage.{Stage}
use Rattle.lock.specs.declared.stage.Stage.TheVariants.{Rest, Trying, Inside, Leaving}
use Rattle.lock.specs.Stages.{inside, asked, moved}
use Rattle.lock.specs.Meaning.{Meaning, Kept, Lawful}
use Rattle.lock.proofs.Moves.{asked_station}
use Rattle.feed.specs.Task.{Progress, begun, board_after}
use Rattle.feed.specs.Whole.{whole}
use Rattle.feed.specs.Course.{going, Course}
use Rattle.feed.proofs.Steps.{goes_on, ends_here, some_access}
use Rattle.feed.specs.declared.board.Board.{Board}
use Rattle.feed.specs.declared.job.Job.{Job}
use Rattle.std.specs.declared.ops.ControlFlow.TheVariants.{Continue, Break}
use Rattle.rack.specs.Calls.{rack_of, idle, kept, with_kept, to_do, turned_rack, worked_by}
use Rattle.rack.specs.declared.calls.Station.{Station}
use Rattle.rack.specs.declared.calls.Rack.{Rack}
use Rattle.runs.proofs.Tests.{never}
use Rattle.runs.proofs.Stations.{kept_at}
use Rattle.runs.proofs.Turned.{stage_after, others_after, trying_turn, leaving_turn}
use Rattle.runs.proofs.Fixed.{fixed_more}
use Rattle.runs.proofs.Ways.{sets_out, goes_further, arrives}
use Rattle.runs.proofs.Phases.{Tries, Works, Leaves, Rests, Phase, tries, works, leaves, rests, Lonely}

module _ {L : Type 0} (m : Meaning L) (laws : Lawful m) (lock quiet : L) (i : ℕ) (book : Board) (job : Job) {start n : ℕ} (C : Course start n i book job (whole i book job)) where
  module _ (r : Rack L) (served wanted : ℕ) (lonely : Lonely m lock quiet i book job r served wanted) (most : i ≤ 16) where
    abbrev s : List Stage
    s = m.stages r.lock

    abbrev then : L
    then = m.turned r.lock i

    -- a function of the lock takes the station from one stage to another
    moves_on : (is : Stage) (l : L) (new : Station) (now : Board) → Kept m r.lock l → m.stages l ≡ moved s i is →
        Phase m lock quiet i book job (rack_of l (with_kept r i new) now) (suc served) (suc wanted) →
        Lonely m lock quiet i book job (rack_of l (with_kept r i new) now) (suc served) (suc wanted)
    moves_on is l new now K moves phase =
        record {
          fixed = fixed_more m lock lonely.fixed K i is moves;
          size = length-set r.stations (i - 1) new ∙ lonely.size;
          others = others_after s i is moves lonely.others;
          phase = phase;
        }

    turns_to : (is : Stage) → m.stages then ≡ moved s i is → Phase m lock quiet i book job (turned_rack m r i) (suc served) (suc wanted) →
        Lonely m lock quiet i book job (turned_rack m r i) (suc served) (suc wanted)
    turns_to is moves = moves_on is then _ r.board (laws.turned_kept r.lock i lonely.fixed.sound) moves

    -- the part that is kept, once it is written
    task_after : (was : Stage) → asked s i ≡ Some was → (new : Station) → (get_or (with_kept r i new) (i - 1) idle).task ≡ new.task
    task_after was here new = ap (λ z. z.task) (kept_at r.stations i new (asked_station s i was here).0 lonely.size most)

    pub try_turn : Tries m lock quiet i book job r served wanted → Lonely m lock quiet i book job (turned_rack m r i) (suc served) (suc wanted)
    try_turn P =
        let falls = laws.lone_falls r.lock i lonely.fixed.sound P.here lonely.others in
        let same = P.all_served in
        let task : (kept (turned_rack m r i) i).task ≡ begun job = task_after Trying P.here _ ∙ P.task in
        elim (trying_turn m laws r.lock i lonely.fixed.sound P.here) [
          | inl moves ↦
              (let here = stage_after s i Trying moves Trying P.here in
              turns_to Trying moves (tries record {
                here = here;
                task = task;
                board = P.board;
                way = goes_further m i Trying Inside (m.lone lock) (m.begun quiet i) (λ c. never (cc)) served r.lock P.way falls here;
                all_served = omega arith;
              }))
          | inr moves ↦
              (let here = stage_after s i Inside moves Trying P.here in
              turns_to Inside moves (works record {
                here = here;
                turns_in = suc served;
                made = 0;
                spent = omega arith;
                got_in = arrives m i Trying Inside (m.lone lock) (m.begun quiet i) (λ c. never (cc)) served r.lock P.way falls here;
                not_all = some_access C;
                walked = ap (λ z. going z book) (sym task) ∙ ap (going (kept (turned_rack m r i) i).task) (sym P.board);
                all_served = omega arith;
              }))
        ]

    pub leave_turn : Leaves m lock quiet i book job r served wanted → Lonely m lock quiet i book job (turned_rack m r i) (suc served) (suc wanted)
    leave_turn P =
        let falls = laws.leave_falls r.lock i lonely.fixed.sound P.here in
        let same = P.all_served in
        let spent = P.spent in
        elim (leaving_turn m laws r.lock i lonely.fixed.sound P.here) [
          | inl moves ↦
              (let here = stage_after s i Leaving moves Leaving P.here in
              turns_to Leaving moves (leaves record {
                here = here;
                turns_in = P.turns_in;
                turns_out = suc P.turns_out;
                spent = omega arith;
                got_in = P.got_in;
                full = P.full;
                was_full = P.was_full;
                way = goes_further m i Leaving Rest (m.leave lock) (m.ended P.full i) (λ c. never (cc)) P.turns_out r.lock P.way falls here;
                all_served = omega arith;
              }))
          | inr moves ↦
              (let here = stage_after s i Rest moves Leaving P.here in
              turns_to Rest moves (rests record {
                here = here;
                turns_in = P.turns_in;
                turns_out = suc P.turns_out;
                spent = omega arith;
                got_in = P.got_in;
                full = P.full;
                was_full = P.was_full;
                got_out = arrives m i Leaving Rest (m.leave lock) (m.ended P.full i) (λ c. never (cc)) P.turns_out r.lock P.way falls here;
                not_more = omega arith;
              }))
        ]

    pub work_slot : Works m lock quiet i book job r served wanted → (p : Progress) → to_do r i ≡ p → Lonely m lock quiet i book job (worked_by m r i p) (suc served) (suc wanted)
    work_slot P (Continue t) e =
        let now : Board = board_after i r.board (kept r i).task in
        let (less, w) = goes_on C P.made (kept r i).task r.board P.not_all P.walked t e in
        let spent = P.spent in
        let same = P.all_served in
        record {
          fixed = lonely.fixed;
          size = length-set r.stations (i - 1) _ ∙ lonely.size;
          others = lonely.others;
          phase = works record {
            here = P.here;
            turns_in = P.turns_in;
            made = suc P.made;
            spent = omega arith;
            got_in = P.got_in;
            not_all = less;
            walked = w ∙ ap (λ z. going z now) (sym (task_after Inside P.here _));
            all_served = omega arith;
          };
        }
    work_slot P (Break v) e =
        let (last, _, _) = ends_here C P.made (kept r i).task r.board P.not_all P.walked v e in
        let K = laws.ended_kept r.lock i lonely.fixed.sound in
        let moves = laws.ends r.lock i lonely.fixed.sound (ap inside P.here) in
        let here = stage_after s i Leaving moves Inside P.here in
        let bound = laws.leave_bound (m.ended r.lock i) i K.sound here in
        let leave_is = (K.leave ∙ lonely.fixed.leave) in
        let spent = P.spent in
        let same = P.all_served in
        moves_on Leaving (m.ended r.lock i) _ _ K moves (leaves record {
          here = here;
          turns_in = P.turns_in;
          turns_out = 0;
          spent = omega arith;
          got_in = P.got_in;
          full = r.lock;
          was_full = record { fixed = lonely.fixed; inside = P.here };
          way = sets_out m i Leaving Rest (m.leave lock) (m.ended r.lock i) (λ c. never (cc)) (omega arith) here;
          all_served = omega arith;
        })

    -- a slot asked for at rest is refused: it is only asked for
    pub rest_slot : Rests m lock quiet i book job r served wanted → Lonely m lock quiet i book job r served (suc wanted)
    rest_slot P =
        let fewer = P.not_more in
        record {
          fixed = lonely.fixed;
          size = lonely.size;
          others = lonely.others;
          phase = rests record {
            here = P.here;
            turns_in = P.turns_in;
            turns_out = P.turns_out;
            spent = P.spent;
            got_in = P.got_in;
            full = P.full;
            was_full = P.was_full;
            got_out = P.got_out;
            not_more = omega arith;
          };
        }
