-- The only station signs the setpoint of 200,000 kg/h.
use Rattle.std.specs.Prelude.{◌≡◌, min, List, [], ◌∷◌, ◌++◌, pos, Ok, Err, nat_le}
use Rattle.std.specs.List.{sum_by}
use Rattle.feed.specs.declared.job.Job.{Job}
use Rattle.feed.specs.declared.job.Job.TheVariants.{Sign}
use Rattle.feed.specs.declared.job.Verdict.TheVariants.{Done}
use Rattle.answers.specs.declared.Served.TheVariants.{NowInside, Working, Ended, NowResting}
use Rattle.answers.specs.declared.Refusal.TheVariants.{Resting}
use Rattle.runs.specs.declared.events.Call.{Call}
use Rattle.runs.specs.declared.events.Call.TheVariants.{Order, Slot}
use Rattle.runs.specs.declared.events.Event.{Event}
use Rattle.runs.specs.declared.events.Event.TheVariants.{Ordered, Slotted}
use Rattle.runs.specs.Told.{accepted, asking, serving, told, rests}
use Rattle.runs.specs.Promise.{up_to}

abbrev pub job : Job
job = Sign (pos 200000)

-- the order, and five slots
abbrev pub calls : List Call
calls = Order 1 job ∷ Slot 1 ∷ Slot 1 ∷ Slot 1 ∷ Slot 1 ∷ Slot 1 ∷ []

abbrev pub answers : List Event
answers =
    Ordered 1 job (Ok tt) ∷ Slotted 1 (Ok NowInside) ∷ Slotted 1 (Ok Working) ∷ Slotted 1 (Ok (Ended Done)) ∷ Slotted 1 (Ok NowResting) ∷ Slotted 1 (Err Resting) ∷ []

-- at every moment after the order: the station rests from its fourth slot on, and all slots up to that one are served
abbrev pub FourSlots : List Event → Type 0
FourSlots es =
    (after later : List Event) → es ≡ up_to [] 1 job after ++ later → accepted after ≡ 0 →
    (rests (told (up_to [] 1 job after) 1) ≡ nat_le 4 (sum_by (asking 1) after)) × (sum_by (serving 1) after ≡ min (sum_by (asking 1) after) 4)
