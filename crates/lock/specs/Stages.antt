-- The stages of N stations as a list, station 1 first.
use Rattle.std.specs.Prelude.{◌≡◌, ℕ, zero, suc, ◌≤◌, Bool, true, false, List, length, Some, None, Option, ◌≢◌, slice_get, slice_set}
use Rattle.lock.specs.declared.stage.Stage.{Stage}
use Rattle.lock.specs.declared.stage.Stage.TheVariants.{Rest, Trying, Inside, Leaving}

-- the number of a station
abbrev pub Station : List Stage → ℕ → Type 0
Station s i = (1 ≤ i) × (i ≤ length s)

-- the answer to the stage question: a station's stage, or nothing for a number that is no station's
abbrev pub asked : List Stage → ℕ → Option Stage
asked s zero = None
asked s (suc k) = slice_get s k

-- the list after one station's stage is altered
abbrev pub moved : List Stage → ℕ → Stage → List Stage
moved s zero x = s
moved s (suc k) x = slice_set s k x

-- every other station rests
abbrev pub OthersRest : List Stage → ℕ → Type 0
OthersRest s i = (j : ℕ) → Station s j → (j ≢ i) → asked s j ≡ Some Rest

abbrev pub AllRest : List Stage → Type 0
AllRest s = (j : ℕ) → Station s j → asked s j ≡ Some Rest

-- the stage in which a station may begin, take a turn, or end
abbrev pub resting : Option Stage → Bool
resting None = false
resting (Some Rest) = true
resting (Some Trying) = false
resting (Some Inside) = false
resting (Some Leaving) = false

abbrev pub moving : Option Stage → Bool
moving None = false
moving (Some Rest) = false
moving (Some Trying) = true
moving (Some Inside) = false
moving (Some Leaving) = true

abbrev pub inside : Option Stage → Bool
inside None = false
inside (Some Rest) = false
inside (Some Trying) = false
inside (Some Inside) = true
inside (Some Leaving) = false

abbrev pub is_resting : List Stage → ℕ → Bool
is_resting s i = resting (asked s i)

abbrev pub is_moving : List Stage → ℕ → Bool
is_moving s i = moving (asked s i)

abbrev pub is_inside : List Stage → ℕ → Bool
is_inside s i = inside (asked s i)
