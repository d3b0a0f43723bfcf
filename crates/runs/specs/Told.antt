-- What events tell by themselves, with no rack and no lock in sight.
use Rattle.std.specs.Prelude.{ℕ, ◌+◌, Bool, true, false, cond, List, map, Ok, Err, ◌==◌}
use Rattle.std.specs.List.{fold, sum_by, count_by, range_with_len}
use Rattle.lock.specs.declared.stage.Stage.{Stage}
use Rattle.lock.specs.declared.stage.Stage.TheVariants.{Rest, Trying, Inside, Leaving}
use Rattle.answers.specs.declared.Served.{Served}
use Rattle.answers.specs.declared.Served.TheVariants.{StillTrying, NowInside, Working, Ended, StillLeaving, NowResting}
use Rattle.runs.specs.declared.events.Event.{Event}
use Rattle.runs.specs.declared.events.Event.TheVariants.{Ordered, Slotted, Looked, Shown}

-- ACCEPTED ORDERS AND FINISHED JOBS

-- 1 for an order answered 0
abbrev pub acceptance : Event → ℕ
acceptance (Ordered i job (Ok x)) = 1
acceptance (Ordered i job (Err f)) = 0
acceptance (Slotted i a) = 0
acceptance (Looked i a) = 0
acceptance (Shown v) = 0

abbrev pub ending : Served → ℕ
ending StillTrying = 0
ending NowInside = 0
ending Working = 0
ending (Ended v) = 1
ending StillLeaving = 0
ending NowResting = 0

-- 1 for a slot answered with a verdict
abbrev pub finishing : Event → ℕ
finishing (Ordered i job a) = 0
finishing (Slotted i (Ok s)) = ending s
finishing (Slotted i (Err f)) = 0
finishing (Looked i a) = 0
finishing (Shown v) = 0

abbrev pub accepted : List Event → ℕ
accepted es = sum_by acceptance es

abbrev pub finished : List Event → ℕ
finished es = sum_by finishing es

-- THE SLOTS OF A STATION

abbrev pub mine : ℕ → ℕ → ℕ
mine i j = cond (j == i) 1 0

-- 1 for a slot asked for station i, refused or not
abbrev pub asking : ℕ → Event → ℕ
asking i (Ordered j job a) = 0
asking i (Slotted j a) = mine i j
asking i (Looked j a) = 0
asking i (Shown v) = 0

-- 1 for an accepted slot of station i
abbrev pub serving : ℕ → Event → ℕ
serving i (Ordered j job a) = 0
serving i (Slotted j (Ok s)) = mine i j
serving i (Slotted j (Err f)) = 0
serving i (Looked j a) = 0
serving i (Shown v) = 0

-- the accepted slots of station i since its last order answered 0: after an event, by how many they were before it
abbrev pub since_after : ℕ → ℕ → Event → ℕ
since_after i c (Ordered j job (Ok x)) = cond (j == i) 0 c
since_after i c (Ordered j job (Err f)) = c
since_after i c (Slotted j (Ok s)) = cond (j == i) (c + 1) c
since_after i c (Slotted j (Err f)) = c
since_after i c (Looked j a) = c
since_after i c (Shown v) = c

abbrev pub since_from : ℕ → ℕ → List Event → ℕ
since_from i = fold (since_after i)

abbrev pub since : List Event → ℕ → ℕ
since es i = since_from i 0 es

-- THE STAGE OF A STATION

-- the stage that the answer to a slot tells
abbrev pub tells : Served → Stage
tells StillTrying = Trying
tells NowInside = Inside
tells Working = Inside
tells (Ended v) = Leaving
tells StillLeaving = Leaving
tells NowResting = Rest

-- the stage of station i that was told last: after an event, by the one told before it
abbrev pub told_after : ℕ → Stage → Event → Stage
told_after i x (Ordered j job (Ok u)) = cond (j == i) Trying x
told_after i x (Ordered j job (Err f)) = x
told_after i x (Slotted j (Ok s)) = cond (j == i) (tells s) x
told_after i x (Slotted j (Err f)) = x
told_after i x (Looked j a) = x
told_after i x (Shown v) = x

abbrev pub told_from : ℕ → Stage → List Event → Stage
told_from i = fold (told_after i)

abbrev pub told : List Event → ℕ → Stage
told es i = told_from i Rest es

-- the stages told of stations 1 to n
abbrev pub all_told : List Event → ℕ → List Stage
all_told es n = map (told es) (range_with_len 1 n)

abbrev pub tries : Stage → Bool
tries Rest = false
tries Trying = true
tries Inside = false
tries Leaving = false

abbrev pub works : Stage → Bool
works Rest = false
works Trying = false
works Inside = true
works Leaving = false

abbrev pub rests : Stage → Bool
rests Rest = true
rests Trying = false
rests Inside = false
rests Leaving = false

-- how many of n stations are trying, and how many are inside
abbrev pub trying : ℕ → List Event → ℕ
trying n es = count_by tries (all_told es n)

abbrev pub inside : ℕ → List Event → ℕ
inside n es = count_by works (all_told es n)
