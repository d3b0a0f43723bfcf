-- Facts of a place. No lock stands in them.
use Rattle.std.specs.Prelude.{◌≡◌, ℕ, ◌+◌, ◌≤◌, true}
use Rattle.std.proofs.Common.{arith}
use Rattle.lock.specs.declared.stage.Stage.TheVariants.{Rest, Inside, Leaving}
use Rattle.one_bit.specs.declared.place.Place.{Place}
use Rattle.one_bit.specs.declared.place.Place.TheVariants.{Idle, Within, Lower}
use Rattle.one_bit.specs.Places.{stage_at, raised, to_come}
use Rattle.one_bit.specs.Turns.{lower_after, higher_after}

pub higher_raised : (n j : ℕ) → raised (higher_after n j) ≡ true
higher_raised n j = grind arith

pub lower_raised : (n i j : ℕ) → raised (lower_after n i j) ≡ true
lower_raised n i j = grind arith

pub at_rest : (p : Place) → stage_at p ≡ Rest → p ≡ Idle
at_rest p e = grind arith

pub at_inside : (p : Place) → stage_at p ≡ Inside → p ≡ Within
at_inside p e = grind arith

pub at_leaving : (p : Place) → stage_at p ≡ Leaving → p ≡ Lower
at_leaving p e = grind arith

pub to_come_most : (n : ℕ) (p : Place) → to_come n p ≤ n + 2
to_come_most n p = grind arith
