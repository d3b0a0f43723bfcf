-- Every call keeps the invariant, and so does every list of calls.
use Rattle.std.proofs.Common.{◌≡◌, ℕ, ◌+◌, ◌≤◌, List, [], ◌∷◌, Some, None, Ok, Err, Option, Result, sym, refl, ◌∙◌, subst, inl, inr, arith}
use Rattle.lock.specs.declared.stage.Stage.{Stage}
use Rattle.lock.specs.declared.stage.Stage.TheVariants.{Rest, Trying, Inside, Leaving}
use Rattle.lock.specs.Stages.{asked, moved}
use Rattle.lock.specs.Meaning.{Meaning, Lawful}
use Rattle.feed.specs.declared.job.Job.{Job}
use Rattle.feed.specs.Task.{Progress}
use Rattle.std.specs.declared.ops.ControlFlow.TheVariants.{Continue, Break}
use Rattle.rack.specs.Calls.{stage_of, fault, order_answer, order_left, ordered_rack, slot_said, slot_left, turned_rack, to_do, worked, worked_by, tried, left}
use Rattle.answers.specs.declared.Refusal.{Refusal}
use Rattle.answers.specs.declared.Served.{Served}
use Rattle.rack.specs.declared.calls.Rack.{Rack}
use Rattle.runs.specs.declared.events.Call.{Call}
use Rattle.runs.specs.declared.events.Call.TheVariants.{Order, Slot, Look, Show}
use Rattle.runs.specs.declared.events.Event.TheVariants.{Ordered, Slotted}
use Rattle.runs.specs.Events.{event, after, ran, events}
use Rattle.runs.proofs.Stations.{known_stage, lock_stage}
use Rattle.runs.proofs.Turned.{stage_after, trying_turn, leaving_turn}
use Rattle.runs.proofs.Accepted.{accepted_at_rest}
use Rattle.runs.proofs.Heard.{Heard, heard, heard_all}
use Rattle.runs.proofs.Good.{Good}
use Rattle.runs.proofs.Turns.{still_trying, now-inside, still_leaving, now-resting}
use Rattle.runs.proofs.Works.{working, ended}
use Rattle.runs.proofs.Orders.{order_accepted}

module _ {L : Type 0} (m : Meaning L) (laws : Lawful m) (lock : L) (start : ℕ) where
  module _ (h : Heard) (r : Rack L) (good : Good m lock start h r) where
    -- what alters nothing, and is neither an order accepted nor a job finished
    unheeded : Good m lock start (record { ledger = h.ledger; accepted = h.accepted + 0; finished = h.finished + 0; stage = h.stage; since = h.since }) r
    unheeded =
        let A = good.agree in
        record {
          fixed = good.fixed;
          agree = record {
            size = A.size;
            fit = A.fit;
            known = λ j st. (let K = A.known j st in record { stage_is = K.stage_is; count_is = K.count_is; last_is = K.last_is; waiting = K.waiting });
            middle = A.middle;
            balance = (let b = A.balance in omega arith);
          };
        }

    module _ (i : ℕ) where
      order_step : (job : Job) (a : Result (Unit {0}) Refusal) → order_answer m r i job ≡ a →
          Good m lock start (heard h (Ordered i job a)) (order_left r (ordered_rack m r i job) a)
      order_step job (Ok x) e =
          let (at_rest, no_fault) = accepted_at_rest (stage_of m r i) (fault job) e in
          let (here, least, most) = known_stage m r i Rest at_rest in
          order_accepted m laws lock start h r good i most job here no_fault
      order_step job (Err f) e = unheeded

      -- a turn is answered by the stage that it led to
      turn_step : (says : Option Stage → Served) {was : Stage} (is : Stage) → stage_of m r i ≡ Some was → m.stages (m.turned r.lock i) ≡ moved (m.stages r.lock) i is →
          Good m lock start (heard h (Slotted i (Ok (says (Some is))))) (turned_rack m r i) →
          Good m lock start (heard h (Slotted i (Ok (says (stage_of m (turned_rack m r i) i))))) (turned_rack m r i)
      turn_step says {was} is e moves =
          let (here, least, most) = known_stage m r i was e in
          subst (λ z. Good m lock start (heard h (Slotted i (Ok (says z)))) (turned_rack m r i))
          (sym (lock_stage m (turned_rack m r i) i least most ∙ stage_after (m.stages r.lock) i is moves was here))

      work_step : i ≤ 16 → asked (m.stages r.lock) i ≡ Some Inside → (p : Progress) → to_do r i ≡ p →
          Good m lock start (heard h (Slotted i (Ok (worked p)))) (worked_by m r i p)
      work_step most here (Continue t) e = working m laws lock start h r good i most here t e
      work_step most here (Break v) e = ended m laws lock start h r good i most here v e

      slot_step : (x : Option Stage) → stage_of m r i ≡ x → Good m lock start (heard h (Slotted i (slot_said m r i x))) (slot_left m r i x)
      slot_step None e = unheeded
      slot_step (Some Rest) e = unheeded
      slot_step (Some Trying) e =
          let (here, least, most) = known_stage m r i Trying e in
          elim (trying_turn m laws r.lock i good.fixed.sound here) [
            | inl moves ↦ turn_step tried Trying e moves (still_trying m laws lock start h r good i most here moves)
            | inr moves ↦ turn_step tried Inside e moves (now-inside m laws lock start h r good i most here moves)
          ]
      slot_step (Some Inside) e = let (here, least, most) = known_stage m r i Inside e in work_step most here (to_do r i) refl
      slot_step (Some Leaving) e =
          let (here, least, most) = known_stage m r i Leaving e in
          elim (leaving_turn m laws r.lock i good.fixed.sound here) [
            | inl moves ↦ turn_step left Leaving e moves (still_leaving m laws lock start h r good i most here moves)
            | inr moves ↦ turn_step left Rest e moves (now-resting m laws lock start h r good i most here moves)
          ]

    call_step : (c : Call) → Good m lock start (heard h (event m r c)) (after m r c)
    call_step (Order i job) = order_step i job (order_answer m r i job) refl
    call_step (Slot i) = slot_step i (stage_of m r i) refl
    call_step (Look i) = unheeded
    call_step Show = unheeded

  pub calls-kept : (cs : List Call) (h : Heard) (r : Rack L) → Good m lock start h r → Good m lock start (heard_all h (events m r cs)) (ran m r cs)
  calls-kept [] h r good = good
  calls-kept (c ∷ cs) h r good = calls-kept cs (heard h (event m r c)) (after m r c) (call_step h r good c)
