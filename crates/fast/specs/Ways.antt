-- What a move of station i from the place p does to its stage, and to its turns to come.
use Rattle.std.specs.Prelude.{◌≡◌, ℕ, ◌+◌, ◌<◌, ◌≤◌, false, ◌⊎◌, ◌≢◌}
use Rattle.std.proofs.Common.{arith}
use Rattle.std.proofs.lemmas.Bool.Decides.{nat_tests}
use Rattle.std.proofs.lemmas.Bool.{cases_eq}
use Rattle.lock.specs.declared.stage.Stage.TheVariants.{Rest, Trying, Inside, Leaving}
use Rattle.fast.specs.declared.place.Place.{Place}
use Rattle.fast.specs.declared.place.Place.TheVariants.{Idle, Within}
use Rattle.fast.specs.Places.{stage_at, to_come}
use Rattle.fast.specs.Plan.{Fast, flag_of}
use Rattle.fast.specs.Sound.{Own}
use Rattle.fast.specs.Moves.{Outcome, Move}

pub at_rest : (p : Place) → stage_at p ≡ Rest → p ≡ Idle
at_rest p e = grind arith

pub at_inside : (p : Place) → stage_at p ≡ Inside → p ≡ Within
at_inside p e = grind arith

pub to_come_most : (n x y i : ℕ) (p : Place) → to_come n x y i p ≤ n + 9
to_come_most n x y i p = grind (arith, nat_tests)

pub leave_most : (n x y i : ℕ) (p : Place) → stage_at p ≡ Leaving → to_come n x y i p ≤ 2
leave_most n x y i p e = grind arith

pub record Ways (l : Fast) (i : ℕ) (p : Place) (w : Outcome) : Type 0 where
  pub leaving_nearer : stage_at p ≡ Leaving → to_come l.n w.x w.y i w.place + 1 ≡ to_come l.n l.registers.x l.registers.y i p
  -- a station that rests before and after has written nothing
  pub resting_writes_not : stage_at p ≡ Rest → stage_at w.place ≡ Rest → (w.x ≡ l.registers.x) × (w.y ≡ l.registers.y)
  -- Y is free or the station's own, and every other flag is lowered
  pub alone_falls : Own l.n l.registers.x l.registers.y i (flag_of l i) p → (l.registers.y ≡ 0) ⊎ (l.registers.y ≡ i) → ((j : ℕ) → 1 ≤ j → j ≤ l.n → (j ≢ i) → flag_of l j ≡ false) →
      stage_at p ≡ Trying → to_come l.n w.x w.y i w.place < to_come l.n l.registers.x l.registers.y i p

-- the premise of what follows from it, so that nothing but the law itself rests on the proof
abbrev pub EveryWay : Type 0
EveryWay = (l : Fast) (i : ℕ) (p : Place) (w : Outcome) → Move l i p w → Ways l i p w

pub ways : EveryWay
ways l i p w m = record {
  leaving_nearer = λ t. grind arith;
  resting_writes_not = λ t u. grind arith;
  alone_falls = λ own free lowered t. grind (arith, nat_tests, cases_eq);
}
