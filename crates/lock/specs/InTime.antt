-- What the counts of turns still to come amount to, in turns.
use Rattle.std.specs.Prelude.{◌≡◌, ℕ, ◌≤◌, Some}
use Rattle.lock.specs.declared.stage.Stage.TheVariants.{Rest, Trying, Inside, Leaving}
use Rattle.lock.specs.Stages.{asked, OthersRest}
use Rattle.lock.specs.Meaning.{Meaning, turns}

-- when all others rest, a trying station is inside after at most the lone number of its own turns
abbrev pub LoneGetsIn : {L : Type 0} → Meaning L → Type 0
LoneGetsIn {L} m =
    (l : L) (i : ℕ) → m.sound l → asked (m.stages l) i ≡ Some Trying → OthersRest (m.stages l) i →
    (k : ℕ) × ((k ≤ m.lone l) × (asked (m.stages (turns m k l i)) i ≡ Some Inside))

-- a leaving station rests after at most the leave number of its own turns
abbrev pub LeaverRests : {L : Type 0} → Meaning L → Type 0
LeaverRests {L} m =
    (l : L) (i : ℕ) → m.sound l → asked (m.stages l) i ≡ Some Leaving → (k : ℕ) × ((k ≤ m.leave l) × (asked (m.stages (turns m k l i)) i ≡ Some Rest))
