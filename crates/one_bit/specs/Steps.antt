-- One turn, at each place: the heart of mutual exclusion, and of each turn's being one fewer to come.
use Rattle.std.specs.Prelude.{◌≡◌, ℕ, ◌<◌, ◌≤◌, Bool, false, None, Some, Option, ◌≢◌}
use Rattle.std.proofs.Common.{arith}
use Rattle.bus.specs.declared.Access.{Access}
use Rattle.bus.specs.Registers.{carried}
use Rattle.lock.specs.declared.stage.Stage.TheVariants.{Trying}
use Rattle.one_bit.specs.declared.register.Register.{Register}
use Rattle.one_bit.specs.declared.place.Place.{Place}
use Rattle.one_bit.specs.Places.{stage_at, access_at, raised, reach, Ranged, to_come}
use Rattle.one_bit.specs.Registers.{value_of}
use Rattle.one_bit.specs.Turns.{next}
use Rattle.one_bit.specs.Plan.{OneBit, place_of, flag_of, stepped}
use Rattle.one_bit.specs.Sound.{Numbered, Sound}
use Rattle.one_bit.specs.Put.{put, put_place, put_same}
use Rattle.one_bit.specs.Next.{lower_raised, higher_raised}

-- the value that goes over the bus, if any does
abbrev pub on_bus : OneBit → Option (Access Register Bool) → Bool
on_bus l None = false
on_bus l (Some a) = carried value_of l.registers a

-- the place after the turn
abbrev pub after_from : OneBit → ℕ → Place → Place
after_from l i p = next l.n i p (on_bus l (access_at i p))

-- what a turn of station i at p does
pub record Steps (l : OneBit) (i : ℕ) (p : Place) : Type 0 where
  pub ranged : (v : Bool) → Ranged l.n i p → Ranged l.n i (next l.n i p v)
  -- past lowered flags each turn is one fewer to come, at the least
  pub falls : Ranged l.n i p → stage_at p ≡ Trying → to_come l.n (next l.n i p false) < to_come l.n p
  -- a station that a turn takes past station k at q had passed k before, or has just read the flag of k lowered
  pub clear : (k : ℕ) (q : Place) → 1 ≤ k → k ≤ l.n → (k ≢ i) → Ranged l.n i p → flag_of l k ≡ raised q →
      (k < reach p → i < reach q → ⊥) → k < reach (after_from l i p) → i < reach q → ⊥
  -- it writes its own flag or nothing
  pub put_there : Sound l → Numbered l i → place_of l i ≡ p → stepped l i p (access_at i p) ≡ put l i (after_from l i p)
  -- alone, it reads no raised flag, and what is written makes no difference to the place after it
  pub alone_from : ((j : ℕ) → Numbered l j → (j ≢ i) → flag_of l j ≡ false) → Ranged l.n i p → after_from l i p ≡ next l.n i p false

-- the premise of what follows from it, so that nothing but the law itself rests on the proof
abbrev pub EveryStep : Type 0
EveryStep = (l : OneBit) (i : ℕ) → l.n ≤ 16 → 1 ≤ i → i ≤ l.n → (p : Place) → Steps l i p

pub steps : EveryStep
steps l i few least most p = record {
  ranged = λ v r. grind arith;
  falls = λ r e. grind arith;
  clear = λ k q c d ne r f apart m v. grind arith;
  put_there = λ s h e. grind (arith, put_place l s i h, put_same l s i h, lower_raised, higher_raised);
  alone_from = λ lowered r. grind (arith, lowered);
}
