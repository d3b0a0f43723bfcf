-- The places on the way in that a station alone goes through. No lock stands in them.
use Rattle.std.proofs.Common.{◌≡◌, ℕ, ◌+◌, ◌<◌, ◌≤◌, false, arith}
use Rattle.lock.specs.declared.stage.Stage.TheVariants.{Trying, Inside}
use Rattle.one_bit.specs.declared.place.Place.{Place}
use Rattle.one_bit.specs.declared.place.Place.TheVariants.{Idle, Raise, CheckLow, Yield, Await, CheckHigh, Within, Lower}
use Rattle.one_bit.specs.Places.{stage_at, Ranged, to_come}
use Rattle.one_bit.specs.Turns.{next}

-- on the way in with no raised flag seen, or inside
abbrev pub Climbs : Place → Type 0
Climbs Idle = ⊥
Climbs Raise = Unit {0}
Climbs (CheckLow j) = Unit {0}
Climbs (Yield j) = ⊥
Climbs (Await j) = ⊥
Climbs (CheckHigh j) = Unit {0}
Climbs Within = Unit {0}
Climbs Lower = ⊥

pub climbs_trying : (n : ℕ) (p : Place) → Climbs p → 0 < to_come n p → stage_at p ≡ Trying
climbs_trying n p c m = grind arith

-- of station i among n
module _ (n i : ℕ) (few : n ≤ 16) (least : 1 ≤ i) (most : i ≤ n) where
  pub climbs_inside : (p : Place) → Ranged n i p → Climbs p → to_come n p ≡ 0 → stage_at p ≡ Inside
  climbs_inside p r c e = grind arith

  pub next_climbs : (p : Place) → Climbs p → Climbs (next n i p false)
  next_climbs p c = grind arith

  -- and exactly one turn fewer to come
  pub next_nearer : (p : Place) → Ranged n i p → Climbs p → 0 < to_come n p → to_come n (next n i p false) + 1 ≡ to_come n p
  next_nearer p r c m = grind arith
