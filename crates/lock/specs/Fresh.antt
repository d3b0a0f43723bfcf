-- A lock as its constructor makes it. Every law is for sound locks only, so what makes a lock says that it is sound.
use Rattle.std.specs.Prelude.{◌≡◌, ℕ, ◌≤◌, length, Ok, Err, Result}
use Rattle.lock.specs.declared.count.WrongStationCount.{WrongStationCount}
use Rattle.lock.specs.Stages.{AllRest}
use Rattle.lock.specs.Meaning.{Meaning}

pub record Fresh {L : Type 0} (m : Meaning L) (n : ℕ) (l : L) : Type 0 where
  pub sound : m.sound l
  pub resting : AllRest (m.stages l)
  pub size : length (m.stages l) ≡ n

-- a lock is made for 1 to 16 stations, and is fresh; any other number is refused
abbrev pub Made : {L : Type 0} → Meaning L → ℕ → Result L WrongStationCount → Type 0
Made m n (Ok l) = (1 ≤ n) × (n ≤ 16) × Fresh m n l
Made m n (Err e) = 1 ≤ n → n ≤ 16 → ⊥
