-- A list of calls: the event of each, and the rack after all of them.
use Rattle.std.specs.Prelude.{List, [], ◌∷◌}
use Rattle.std.specs.List.{fold}
use Rattle.lock.specs.Meaning.{Meaning}
use Rattle.rack.specs.Calls.{order_answer, order_rack, slot_answer, slot_rack, look_answer, board_answer}
use Rattle.rack.specs.declared.calls.Rack.{Rack}
use Rattle.runs.specs.declared.events.Call.{Call}
use Rattle.runs.specs.declared.events.Call.TheVariants.{Order, Slot, Look, Show}
use Rattle.runs.specs.declared.events.Event.{Event}
use Rattle.runs.specs.declared.events.Event.TheVariants.{Ordered, Slotted, Looked, Shown}

abbrev pub event : {L : Type 0} → Meaning L → Rack L → Call → Event
event m r (Order i job) = Ordered i job (order_answer m r i job)
event m r (Slot i) = Slotted i (slot_answer m r i)
event m r (Look i) = Looked i (look_answer m r i)
event m r Show = Shown (board_answer m r)

abbrev pub after : {L : Type 0} → Meaning L → Rack L → Call → Rack L
after m r (Order i job) = order_rack m r i job
after m r (Slot i) = slot_rack m r i
after m r (Look i) = r
after m r Show = r

abbrev pub ran : {L : Type 0} → Meaning L → Rack L → List Call → Rack L
ran m = fold (after m)

abbrev pub events : {L : Type 0} → Meaning L → Rack L → List Call → List Event
events m r [] = []
events m r (c ∷ cs) = event m r c ∷ events m (after m r c) cs
