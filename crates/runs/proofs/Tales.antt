-- A lone order in a list of events, followed through the calls that the events came from.
use Rattle.std.proofs.Common.{◌≡◌, ℕ, ◌≤◌, List, [], ◌∷◌, length, Some, Ok, sym, ap, ◌∙◌, subst, inl, inr, arith}
use Rattle.std.specs.List.{sum_by}
use Rattle.std.proofs.lemmas.List.{append-nil}
use Rattle.std.proofs.lemmas.Bool.{cases_eq}
use Rattle.lock.specs.declared.stage.Stage.TheVariants.{Rest, Inside}
use Rattle.lock.specs.Stages as stages
use Rattle.lock.specs.Stages.{asked, AllRest}
use Rattle.lock.specs.Meaning.{Meaning, Lawful}
use Rattle.lock.proofs.Moves.{asked_station}
use Rattle.feed.specs.Job.{ceiling}
use Rattle.feed.specs.Whole.{whole}
use Rattle.feed.specs.Course.{Course}
use Rattle.feed.proofs.Courses.{course}
use Rattle.feed.specs.declared.board.Board.{Board}
use Rattle.feed.specs.declared.job.Job.{Job}
use Rattle.rack.specs.Calls.{fresh_rack, ordered_rack}
use Rattle.rack.specs.declared.calls.Rack.{Rack}
use Rattle.runs.specs.declared.events.Call.{Call}
use Rattle.runs.specs.declared.events.Event.{Event}
use Rattle.runs.specs.declared.events.Event.TheVariants.{Ordered}
use Rattle.runs.specs.Events.{ran, events}
use Rattle.runs.specs.Told.{accepted, asking, serving, told}
use Rattle.runs.specs.Ledger.{ledger}
use Rattle.runs.specs.Promise.{Ready, up_to, Lone}
use Rattle.runs.proofs.Tests.{never}
use Rattle.runs.proofs.Stations.{known_stage}
use Rattle.runs.proofs.Faults.{faultless}
use Rattle.runs.proofs.Fixed.{Fixed}
use Rattle.runs.proofs.Middles.{book_is}
use Rattle.runs.proofs.Phases.{Lonely}
use Rattle.runs.proofs.LoneCalls.{lone_order, lone_calls}
use Rattle.runs.proofs.Splits.{parts, taken}
use Rattle.runs.proofs.Moments.{Moment, moment}

-- the events tell of every station but i that it rests
abbrev OthersToldRest : ℕ → List Event → ℕ → Type 0
OthersToldRest n before i = (j : ℕ) → 1 ≤ j → j ≤ n → (j ≡ i → ⊥) → told before j ≡ Rest

-- the lock that the order found, at rest; and where its station has come since
pub record Tale {L : Type 0} (m : Meaning L) (lock : L) (book : Board) (i : ℕ) (job : Job) (after : List Event) (r : Rack L) : Type 0 where
  pub quiet : L
  pub fixed : Fixed m lock quiet
  pub at_rest : AllRest (m.stages quiet)
  pub station : stages.Station (m.stages quiet) i
  pub lonely : Lonely m lock quiet i book job r (sum_by (serving i) after) (sum_by (asking i) after)

-- an order that a resting station of a rack is given while all others rest
module _ {L : Type 0} (m : Meaning L) (laws : Lawful m) (lock : L) (start : ℕ) (before : List Event) (r : Rack L) (found : Moment m lock start before r) where
  module _ (i : ℕ) (here : asked (m.stages r.lock) i ≡ Some Rest) (others : OthersToldRest (length (m.stages lock)) before i) where
    all_rest : AllRest (m.stages r.lock)
    all_rest j (low, high) = elim (cases_eq j i) [
      | inl e ↦ subst (λ z. asked (m.stages r.lock) z ≡ Some Rest) (sym e) here
      | inr ne ↦
          (let number = found.fixed.number in
          let within : j ≤ length (m.stages lock) = omega arith in
          found.stage j low within ∙ ap Some (others j low within ne))
    ]

    same-book : r.board ≡ (ledger start before).board
    same-book = book_is found.middle (λ j in_j. let rest = all_rest j (asked_station (m.stages r.lock) j Inside in_j) in never (cc))

    tale_from : (job : Job) → Course start (length (m.stages lock)) i (ledger start before).board job (whole i (ledger start before).board job) →
        (cs : List Call) → accepted (events m (ordered_rack m r i job) cs) ≡ 0 →
        Tale m lock (ledger start before).board i job (events m (ordered_rack m r i job) cs) (ran m (ordered_rack m r i job) cs)
    tale_from job C cs none =
        let st = asked_station (m.stages r.lock) i Rest here in
        let most = laws.most r.lock found.fixed.sound in
        let book : Board = (ledger start before).board in
        let at_first : Lonely m lock r.lock i book job (ordered_rack m r i job) 0 0 =
        subst (λ z. Lonely m lock r.lock i z job (ordered_rack m r i job) 0 0) same-book (lone_order m laws lock r found.fixed i job all_rest st found.size)
        in
        record {
          quiet = r.lock;
          fixed = found.fixed;
          at_rest = all_rest;
          station = st;
          lonely = lone_calls m laws lock r.lock i book job C (omega arith) cs (ordered_rack m r i job) 0 0 at_first none (omega arith) (omega arith);
        }

module _ {L : Type 0} (m : Meaning L) (laws : Lawful m) (lock : L) (start : ℕ) (ready : Ready m lock) (low : start ≤ ceiling) (cs : List Call) where
  abbrev first : Rack L
  first = fresh_rack lock start

  -- a lone order and all that came after it
  pub tale : (before : List Event) (i : ℕ) (job : Job) (after : List Event) → Lone (length (m.stages lock)) (events m first cs) before i job after [] →
      Tale m lock (ledger start before).board i job after (ran m first cs)
  tale before i job after lone =
      let halves = parts m before (Ordered i job (Ok tt) ∷ after) cs first (lone.split ∙ append-nil (up_to before i job after)) in
      let r : Rack L = ran m first halves.first in
      let found : Moment m lock start before r = subst (λ z. Moment m lock start z r) halves.first-events (moment m laws lock start ready low halves.first) in
      let order = taken m r i job halves.second after halves.second_events in
      let (here, least, most) = known_stage m r i Rest order.rested in
      let (_, high) = asked_station (m.stages r.lock) i Rest here in
      let number = found.fixed.number in
      let C = course start (length (m.stages lock)) i (ledger start before).board job found.fit (omega arith) (faultless job order.no_fault) in
      let followed = tale_from m laws lock start before r found i here lone.others_rest job C order.rest (ap accepted order.rest_events ∙ lone.no_other) in
      subst (Tale m lock (ledger start before).board i job after) (sym (halves.both ∙ order.ends))
      (subst (λ z. Tale m lock (ledger start before).board i job z (ran m (ordered_rack m r i job) order.rest)) order.rest_events followed)
