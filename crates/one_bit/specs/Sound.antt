-- What holds of a fresh lock and of every lock that the functions reach from it.
use Rattle.std.specs.Prelude.{◌≡◌, ℕ, ◌<◌, ◌≤◌, length, ◌≢◌}
use Rattle.one_bit.specs.Places.{raised, reach, Ranged}
use Rattle.one_bit.specs.Plan.{OneBit, place_of, flag_of}

abbrev pub Numbered : OneBit → ℕ → Type 0
Numbered l i = (1 ≤ i) × (i ≤ l.n)

pub record Sound (l : OneBit) : Type 0 where
  pub least : 1 ≤ l.n
  pub most : l.n ≤ 16
  pub places_fit : l.n ≤ length l.places
  pub flags_fit : l.n ≤ length l.registers.flags.raised
  -- each flag is what its station's place says
  pub flags : (i : ℕ) → Numbered l i → flag_of l i ≡ raised (place_of l i)
  pub ranged : (i : ℕ) → Numbered l i → Ranged l.n i (place_of l i)
  -- no two stations have passed one another
  pub apart : (i k : ℕ) → Numbered l i → Numbered l k → (i ≢ k) → k < reach (place_of l i) → i < reach (place_of l k) → ⊥
