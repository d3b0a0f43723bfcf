-- What a move of station i from the place p does to the facts of the lock: those of i, those of another station k with its flag at f and its place at q,
-- and those of both.
use Rattle.std.specs.Prelude.{◌≡◌, ℕ, ◌≤◌, Bool, ◌≢◌}
use Rattle.std.proofs.Common.{arith}
use Rattle.std.proofs.lemmas.Bool.Decides.{nat_tests}
use Rattle.fast.specs.declared.place.Place.{Place}
use Rattle.fast.specs.Plan.{Fast, flag_of}
use Rattle.fast.specs.Sound.{Own, Pair}
use Rattle.fast.specs.Moves.{Outcome, Move}

pub record Steps (l : Fast) (i : ℕ) (p : Place) (w : Outcome) : Type 0 where
  pub y_named : i ≤ l.n → l.registers.y ≤ l.n → w.y ≤ l.n
  pub own_moved : 1 ≤ i → 1 ≤ l.n → Own l.n l.registers.x l.registers.y i (flag_of l i) p → Own l.n w.x w.y i w.flag w.place
  pub pair_kept : (k : ℕ) → 1 ≤ i → 1 ≤ k → k ≤ l.n → (k ≢ i) → (f : Bool) (q : Place) (j : ℕ) (r : Place) → (j ≢ i) →
      Pair l.registers.x l.registers.y k j f q r → Pair w.x w.y k j f q r
  pub own_kept : (k : ℕ) → 1 ≤ i → 1 ≤ k → k ≤ l.n → (k ≢ i) → (f : Bool) (q : Place) → flag_of l k ≡ f → Own l.n l.registers.x l.registers.y i (flag_of l i) p →
      Own l.n l.registers.x l.registers.y k f q → Pair l.registers.x l.registers.y i k (flag_of l i) p q → Pair l.registers.x l.registers.y k i f q p → Own l.n w.x w.y k f q
  pub pair_from : (k : ℕ) → 1 ≤ i → 1 ≤ k → k ≤ l.n → (k ≢ i) → (f : Bool) (q : Place) → flag_of l k ≡ f → Own l.n l.registers.x l.registers.y i (flag_of l i) p →
      Own l.n l.registers.x l.registers.y k f q → Pair l.registers.x l.registers.y i k (flag_of l i) p q → Pair l.registers.x l.registers.y k i f q p → Pair w.x w.y i k w.flag w.place q
  pub pair_to : (k : ℕ) → 1 ≤ i → 1 ≤ k → k ≤ l.n → (k ≢ i) → (f : Bool) (q : Place) → flag_of l k ≡ f → Own l.n l.registers.x l.registers.y i (flag_of l i) p →
      Own l.n l.registers.x l.registers.y k f q → Pair l.registers.x l.registers.y i k (flag_of l i) p q → Pair l.registers.x l.registers.y k i f q p → Pair w.x w.y k i f q w.place

-- the premise of what follows from it, so that nothing but the law itself rests on the proof
abbrev pub EveryStep : Type 0
EveryStep = (l : Fast) (i : ℕ) (p : Place) (w : Outcome) → Move l i p w → Steps l i p w

pub steps : EveryStep
steps l i p w m = record {
  y_named = λ h g. grind (arith, nat_tests);
  own_moved = λ h g o. grind (arith, nat_tests);
  pair_kept = λ k h g top ne f q j r nj u. grind (arith, nat_tests);
  own_kept = λ k h g top ne f q fl mine theirs fore back. grind (arith, nat_tests);
  pair_from = λ k h g top ne f q fl mine theirs fore back. grind (arith, nat_tests);
  pair_to = λ k h g top ne f q fl mine theirs fore back. grind (arith, nat_tests);
}
