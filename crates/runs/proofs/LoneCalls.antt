-- A lone order, from its acceptance through any calls of which none is another accepted order.
use Rattle.std.proofs.Common.{◌≡◌, ℕ, suc, ◌+◌, ◌-◌, ◌≤◌, List, [], ◌∷◌, length, Some, None, Ok, Err, Option, Result, sym, refl, ap, ◌∙◌, subst, inl, inr, arith}
use Rattle.std.specs.List.{sum_by}
use Rattle.std.proofs.lemmas.List.Sums.{sum_by-cons}
use Rattle.std.proofs.lemmas.Bool.{cases_eq}
use Rattle.std.proofs.lemmas.List.{length-set}
use Rattle.lock.specs.declared.stage.Stage.{Stage}
use Rattle.lock.specs.declared.stage.Stage.TheVariants.{Rest, Trying, Inside, Leaving}
use Rattle.lock.specs.Stages as stages
use Rattle.lock.specs.Stages.{resting, asked, OthersRest, AllRest}
use Rattle.lock.specs.Meaning.{Meaning, Lawful}
use Rattle.lock.proofs.Moves.{asked_station}
use Rattle.feed.specs.Whole.{whole}
use Rattle.feed.specs.Course.{Course}
use Rattle.feed.specs.declared.board.Board.{Board}
use Rattle.feed.specs.declared.job.Job.{Job}
use Rattle.rack.specs.Calls.{stage_of, order_left, order_answer, ordered_rack, slot_said, slot_left, to_do}
use Rattle.answers.specs.declared.Refusal.{Refusal}
use Rattle.rack.specs.declared.calls.Rack.{Rack}
use Rattle.runs.specs.declared.events.Call.{Call}
use Rattle.runs.specs.declared.events.Call.TheVariants.{Order, Slot, Look, Show}
use Rattle.runs.specs.declared.events.Event.TheVariants.{Ordered, Slotted}
use Rattle.runs.specs.Events.{event, after, ran, events}
use Rattle.runs.specs.Told.{acceptance, accepted, mine, asking, serving}
use Rattle.runs.proofs.Tests.{never, cond_at, cond_off}
use Rattle.runs.proofs.Stations.{known_stage, lock_stage, kept_at}
use Rattle.runs.proofs.Turned.{stage_after, others_after}
use Rattle.runs.proofs.Fixed.{Fixed, fixed_more}
use Rattle.runs.proofs.Ways.{sets_out}
use Rattle.runs.proofs.Phases.{Phase, tries, works, leaves, rests, Lonely}
use Rattle.runs.proofs.LoneSlots.{try_turn, work_slot, leave_turn, rest_slot}

-- an order accepted while all rest
module _ {L : Type 0} (m : Meaning L) (laws : Lawful m) (lock : L) (r : Rack L) (F : Fixed m lock r.lock) (i : ℕ) (job : Job) where
  pub lone_order : AllRest (m.stages r.lock) → stages.Station (m.stages r.lock) i → length r.stations ≡ 16 → Lonely m lock r.lock i r.board job (ordered_rack m r i job) 0 0
  lone_order rest (least, high) size =
      let most = laws.most r.lock F.sound in
      let K = laws.begun_kept r.lock i F.sound in
      let moves = laws.begins r.lock i F.sound (ap resting (rest i (least, high))) in
      let here : asked (m.stages (m.begun r.lock i)) i ≡ Some Trying = stage_after (m.stages r.lock) i Trying moves Rest (rest i (least, high)) in
      let others : OthersRest (m.stages (m.begun r.lock i)) i = others_after (m.stages r.lock) i Trying moves (λ j st ne. rest j st) in
      let bound = laws.lone_bound (m.begun r.lock i) i K.sound here others in
      let lone_is = (K.lone ∙ F.lone) in
      record {
        fixed = fixed_more m lock F K i Trying moves;
        size = length-set r.stations (i - 1) _ ∙ size;
        others = others;
        phase = tries record {
          here = here;
          task = ap (λ z. z.task) (kept_at r.stations i _ least size (omega arith));
          board = refl;
          way = sets_out m i Trying Inside (m.lone lock) (m.begun r.lock i) (λ c. never (cc)) (omega arith) here;
          all_served = refl;
        };
      }

module _ {L : Type 0} (m : Meaning L) (laws : Lawful m) (lock quiet : L) (i : ℕ) (book : Board) (job : Job) {start n : ℕ} (C : Course start n i book job (whole i book job)) (most : i ≤ 16) where
  recounted : {r : Rack L} {served wanted served' wanted' : ℕ} → served' ≡ served → wanted' ≡ wanted →
      Lonely m lock quiet i book job r served wanted → Lonely m lock quiet i book job r served' wanted'
  recounted {r} {served} {wanted} {served'} {wanted'} e f lonely =
      subst (λ z. Lonely m lock quiet i book job r z wanted') (sym e) (subst (λ z. Lonely m lock quiet i book job r served z) (sym f) lonely)

  module _ (r : Rack L) (served wanted : ℕ) (lonely : Lonely m lock quiet i book job r served wanted) where
    unaltered : Lonely m lock quiet i book job r (served + 0) (wanted + 0)
    unaltered = recounted (omega arith) (omega arith) lonely

    -- after a slot of station j, found at a stage
    abbrev SlotOf : ℕ → Option Stage → Type 0
    SlotOf j x = Lonely m lock quiet i book job (slot_left m r j x) (served + serving i (Slotted j (slot_said m r j x))) (wanted + asking i (Slotted j (slot_said m r j x)))

    found_at : (x : Stage) → asked (m.stages r.lock) i ≡ Some x → SlotOf i (Some x) → SlotOf i (stage_of m r i)
    found_at x here = subst (SlotOf i) (sym (lock_stage m r i (asked_station (m.stages r.lock) i x here).0 most ∙ here))

    own : mine i i ≡ 1
    own = cond_at i 1 0

    -- a slot that is served is asked for too
    both_counted : {r' : Rack L} → Lonely m lock quiet i book job r' (suc served) (suc wanted) → Lonely m lock quiet i book job r' (served + mine i i) (wanted + mine i i)
    both_counted = let one = own in recounted (omega arith) (omega arith)

    own_slot : Phase m lock quiet i book job r served wanted → SlotOf i (stage_of m r i)
    own_slot (tries P) = found_at Trying P.here (both_counted (try_turn m laws lock quiet i book job C r served wanted lonely most P))
    own_slot (works P) = found_at Inside P.here (both_counted (work_slot m laws lock quiet i book job C r served wanted lonely most P (to_do r i) refl))
    own_slot (leaves P) = found_at Leaving P.here (both_counted (leave_turn m laws lock quiet i book job C r served wanted lonely most P))
    own_slot (rests P) =
        let one = own in
        found_at Rest P.here (recounted (omega arith) (omega arith) (rest_slot m laws lock quiet i book job C r served wanted lonely most P))

    -- another station is at rest, or there is none
    only_resting : (j : ℕ) → (j ≡ i → ⊥) → (x : Stage) → stage_of m r j ≡ Some x → x ≡ Rest
    only_resting j ne x e =
        let there = (known_stage m r j x e).0 in
        let rest = lonely.others j (asked_station (m.stages r.lock) j x there) ne in
        cc

    unserved : (j : ℕ) → (j ≡ i → ⊥) → Lonely m lock quiet i book job r (served + 0) (wanted + mine i j)
    unserved j ne = let none : mine i j ≡ 0 = cond_off j i 1 0 ne in recounted (omega arith) (omega arith) lonely

    other_slot : (j : ℕ) → (j ≡ i → ⊥) → (x : Option Stage) → stage_of m r j ≡ x → SlotOf j x
    other_slot j ne None e = unserved j ne
    other_slot j ne (Some Rest) e = unserved j ne
    other_slot j ne (Some Trying) e = let c = only_resting j ne Trying e in never (cc)
    other_slot j ne (Some Inside) e = let c = only_resting j ne Inside e in never (cc)
    other_slot j ne (Some Leaving) e = let c = only_resting j ne Leaving e in never (cc)

    refused_order : (j : ℕ) (other : Job) (new : Rack L) (a : Result (Unit {0}) Refusal) → acceptance (Ordered j other a) ≡ 0 →
        Lonely m lock quiet i book job (order_left r new a) (served + 0) (wanted + 0)
    refused_order j other new (Ok x) e = absurd (omega arith)
    refused_order j other new (Err f) e = unaltered

    lone_call : (c : Call) → acceptance (event m r c) ≡ 0 → Lonely m lock quiet i book job (after m r c) (served + serving i (event m r c)) (wanted + asking i (event m r c))
    lone_call (Order j other) e = refused_order j other (ordered_rack m r j other) (order_answer m r j other) e
    lone_call (Slot j) e = elim (cases_eq j i) [
      | inl d ↦ subst (λ z. SlotOf z (stage_of m r z)) (sym d) (own_slot lonely.phase)
      | inr ne ↦ other_slot j ne (stage_of m r j) refl
    ]
    lone_call (Look j) e = unaltered
    lone_call Show e = unaltered

  pub lone_calls : (cs : List Call) (r : Rack L) (served wanted : ℕ) → Lonely m lock quiet i book job r served wanted → accepted (events m r cs) ≡ 0 →
      {served' wanted' : ℕ} → served' ≡ served + sum_by (serving i) (events m r cs) → wanted' ≡ wanted + sum_by (asking i) (events m r cs) →
      Lonely m lock quiet i book job (ran m r cs) served' wanted'
  lone_calls [] r served wanted lonely none e f = recounted (omega arith) (omega arith) lonely
  lone_calls (c ∷ cs) r served wanted lonely none e f =
      let rest = events m (after m r c) cs in
      let first = sum_by-cons acceptance (event m r c) rest in
      let served_first = sum_by-cons (serving i) (event m r c) rest in
      let asked_first = sum_by-cons (asking i) (event m r c) rest in
      let next = lone_call r served wanted lonely c (omega arith) in
      lone_calls cs (after m r c) (served + serving i (event m r c)) (wanted + asking i (event m r c)) next (omega arith) (omega arith) (omega arith)
