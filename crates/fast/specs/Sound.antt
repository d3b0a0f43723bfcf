-- What holds of a fresh lock and of every lock that the functions reach from it.
use Rattle.std.specs.Prelude.{◌≡◌, ℕ, ◌≤◌, Bool, true, false, length, Some, ◌≢◌}
use Rattle.fast.specs.declared.place.Place.{Place}
use Rattle.fast.specs.declared.place.Place.TheVariants.{Confirm, Scan}
use Rattle.fast.specs.Places.{flag_at, on_fast_way, holds, may_own, looked_past}
use Rattle.fast.specs.Plan.{Fast, place_of, flag_of}

abbrev pub Numbered : Fast → ℕ → Type 0
Numbered l i = (1 ≤ i) × (i ≤ l.n)

-- of station i among n, at the place p, by what X, Y and its flag have
pub record Own (n x y i : ℕ) (flag : Bool) (p : Place) : Type 0 where
  -- the flag is what the place says
  pub raised : flag_at p ≡ Some true → flag ≡ true
  pub lowered : flag_at p ≡ Some false → flag ≡ false
  -- Y has its number only between its own write and its leaving
  pub owner : y ≡ i → may_own p ≡ true
  -- about to enter by X, it finds Y taken
  pub confirming : p ≡ Confirm → x ≡ i → y ≢ 0
  -- Y is taken while it holds the lock
  pub taken : holds p ≡ true → y ≢ 0
  -- with its flag lowered it came in by Y, and Y still has its number
  pub by_y : holds p ≡ true → flag ≡ false → y ≡ i
  -- the flag that it looks at is a station's
  pub scan_least : (j : ℕ) → p ≡ Scan j → 1 ≤ j
  pub scan_most : (j : ℕ) → p ≡ Scan j → j ≤ n

-- of station i at the place p, by what X, Y and its flag have, and another station k at the place q
pub record Pair (x y i k : ℕ) (flag : Bool) (p q : Place) : Type 0 where
  -- not both hold the lock
  pub apart : holds p ≡ true → holds q ≢ true
  -- while one holds the lock, none on the fast way still has its number in X
  pub too_late : holds p ≡ true → on_fast_way q ≡ true → x ≢ k
  -- while another is on the fast way, the one that holds the lock has its flag raised
  pub warned : holds p ≡ true → on_fast_way q ≡ true → flag ≡ true
  -- while Y has its number, none whose flag it has looked past is on the fast way, or holds the lock
  pub none_coming : y ≡ i → looked_past p k ≡ true → on_fast_way q ≢ true
  pub none_within : y ≡ i → looked_past p k ≡ true → holds q ≢ true

pub record Sound (l : Fast) : Type 0 where
  pub least : 1 ≤ l.n
  pub most : l.n ≤ 16
  pub places_fit : l.n ≤ length l.places
  pub flags_fit : l.n ≤ length l.registers.flags.raised
  -- Y is free or has a station's number
  pub y_named : l.registers.y ≤ l.n
  pub own : (i : ℕ) → Numbered l i → Own l.n l.registers.x l.registers.y i (flag_of l i) (place_of l i)
  pub pair : (i k : ℕ) → Numbered l i → Numbered l k → (i ≢ k) → Pair l.registers.x l.registers.y i k (flag_of l i) (place_of l i) (place_of l k)
