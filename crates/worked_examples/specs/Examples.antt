-- Worked examples of jobs done whole and of runs under both locks.
use Rattle.std.specs.Prelude.{◌≡◌, ℕ, List, [], ◌∷◌, ◌++◌, map, ℤ, pos, negsuc, Some, Ok}
use Rattle.bus.specs.declared.Access.TheVariants.{Read}
use Rattle.lock.specs.declared.stage.Stage.TheVariants.{Rest}
use Rattle.feed.specs.Board.{fresh}
use Rattle.feed.specs.Job.{verdict_number}
use Rattle.feed.specs.Whole.{whole, setpoint, depth, pile, Outcome}
use Rattle.feed.specs.declared.job.Job.{Job}
use Rattle.feed.specs.declared.job.Job.TheVariants.{Trim, Undo, Sign}
use Rattle.feed.specs.declared.job.Verdict.TheVariants.{Done}
use Rattle.rack.specs.Calls.{fresh_rack, look_answer}
use Rattle.answers.specs.Numbers.{order_number, slot_number}
use Rattle.runs.specs.Events.{ran}
use Rattle.runs.specs.declared.events.Call.{Call}
use Rattle.runs.specs.declared.events.Call.TheVariants.{Order, Slot}
use Rattle.runs.specs.declared.events.Event.{Event}
use Rattle.runs.specs.declared.events.Event.TheVariants.{Ordered, Slotted, Looked, Shown}
use Rattle.one_bit.specs.Meaning.{one_bit_meaning}
use Rattle.one_bit.specs.Plan.{fresh as fresh_one_bit}
use Rattle.fast.specs.Meaning.{fast_meaning}
use Rattle.fast.specs.Places.{access_at}
use Rattle.fast.specs.Plan.{place_of}
use Rattle.fast.specs.Plan.{fresh as fresh_fast}
use Rattle.fast.specs.declared.register.Register.TheVariants.{Flag}
use Rattle.kinds.specs.Runs.{kind_events}
use Rattle.kinds.specs.declared.LockKind.TheVariants.{Fast}

-- a job of station 1 done whole on a fresh board
abbrev pub from : ℕ → Job → Outcome
from start job = whole 1 (fresh (pos start)) job

-- its verdict's number, the new setpoint and the pile, newest last
abbrev pub Gives : Outcome → ℕ → ℤ → List ℤ → Type 0
Gives o verdict point entries = (verdict_number o.verdict ≡ verdict) × (setpoint o.board ≡ point) × (pile o.board ≡ entries)

-- the answers' numbers of orders and slots
abbrev pub answer : Event → ℕ
answer (Ordered i job a) = order_number a
answer (Slotted i a) = slot_number a
answer (Looked i a) = 0
answer (Shown v) = 0

abbrev pub slots : List ℕ → List Call
slots stations = map Slot stations

-- all three stations of a rack with the fast lock are ordered, and then served in this order
abbrev pub three_ordered : List ℕ → List Call
three_ordered stations = Order 1 Undo ∷ Order 2 Undo ∷ Order 3 Undo ∷ slots stations

pub record WorkedExamples : Type 0 where
  pub trim_by_50 : Gives (from 200000 (Trim (pos 50))) 1 (pos 210000) (pos 10000 ∷ [])
  pub trim_by_33_and_back :
      Gives (from 199999 (Trim (pos 33))) 1 (pos 206598) (pos 6599 ∷ []) × Gives (whole 1 (from 199999 (Trim (pos 33))).board Undo) 1 (pos 199999) []
  pub trim_down_by_33 : Gives (from 199999 (Trim (negsuc 32))) 1 (pos 193400) (negsuc 6598 ∷ [])
  pub trim_by_1_below_the_ceiling : Gives (from 399600 (Trim (pos 1))) 1 (pos 399999) (pos 399 ∷ [])
  pub trim_at_the_ceiling : Gives (from 400000 (Trim (pos 1))) 3 (pos 400000) []
  pub trim_up_to_the_ceiling_and_over : Gives (from 333334 (Trim (pos 200))) 1 (pos 400000) (pos 66666 ∷ []) × Gives (from 333335 (Trim (pos 200))) 3 (pos 333335) []
  pub trim_of_less_than_one : Gives (from 19 (Trim (pos 50))) 1 (pos 19) (pos 0 ∷ []) × (depth (from 19 (Trim (pos 50))).board ≡ 1)
  pub undo_on_an_empty_pile : Gives (from 200000 Undo) 4 (pos 200000) []
  pub sign_of_another_setpoint : Gives (from 199999 (Sign (pos 200000))) 5 (pos 199999) []
  pub lone_sign_under_the_fast_lock :
      let calls : List Call = Order 1 (Sign (pos 200000)) ∷ slots (1 ∷ 1 ∷ 1 ∷ 1 ∷ 1 ∷ 1 ∷ 1 ∷ 1 ∷ 1 ∷ []) in
      (map answer (kind_events Fast 2 200000 calls) ≡ 0 ∷ 10 ∷ 10 ∷ 10 ∷ 10 ∷ 11 ∷ 12 ∷ 21 ∷ 13 ∷ 14 ∷ []) ×
      (look_answer fast_meaning (ran fast_meaning (fresh_rack (fresh_fast 2) 200000) calls) 1 ≡ Ok (record { stage = Rest; count = 9; last = Some Done }))
  pub lone_trim_under_the_one_bit_lock :
      let calls : List Call = Order 3 (Trim (pos 33)) ∷ slots (3 ∷ 3 ∷ 3 ∷ 3 ∷ 3 ∷ 3 ∷ 3 ∷ 3 ∷ 3 ∷ 3 ∷ 3 ∷ []) in
      look_answer one_bit_meaning (ran one_bit_meaning (fresh_rack (fresh_one_bit 4) 199999) calls) 3 ≡ Ok (record { stage = Rest; count = 11; last = Some Done })
  -- the tenth slot takes station 1 inside; station 2, which has the last word in Y, then waits on the flag of station 1
  pub three_stations_under_the_fast_lock :
      let first : List ℕ = 1 ∷ 2 ∷ 3 ∷ 2 ∷ 1 ∷ 1 ∷ 2 ∷ 1 ∷ 2 ∷ 1 ∷ [] in
      let then : List ℕ = 3 ∷ 2 ∷ 2 ∷ 2 ∷ [] in
      (map answer (kind_events Fast 3 200000 (three_ordered (first ++ then))) ≡ 0 ∷ 0 ∷ 0 ∷ 10 ∷ 10 ∷ 10 ∷ 10 ∷ 10 ∷ 10 ∷ 10 ∷ 10 ∷ 10 ∷ 11 ∷ 10 ∷ 10 ∷ 10 ∷ 10 ∷ []) ×
      (let lock = (ran fast_meaning (fresh_rack (fresh_fast 3) 200000) (three_ordered (first ++ then))).lock in access_at 2 (place_of lock 2) ≡ Some (Read (Flag 1)))
