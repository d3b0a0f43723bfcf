-- The arithmetic of a trim: nothing saturates, and the new setpoint is not negative.
use Rattle.std.proofs.Common.{◌≡◌, ℕ, suc, ◌+◌, ◌-◌, ◌*◌, ◌/◌, ◌^◌, ◌<◌, ◌≤◌, ℤ, pos, negsuc, ◌+ℤ◌, ◌*ℤ◌, nat_abs, refl, ap, ◌∙◌, mul-le-mul, arith}
use Rattle.std.specs.Int.{saturate_to_bits}
use Rattle.std.proofs.lemmas.Int.{ints}
use Rattle.feed.specs.Job.{ceiling, thousandth}
use Rattle.feed.specs.Laws.{ComputedExactly}
use Rattle.feed.specs.Task.{tested, judged}
use Rattle.feed.specs.Whole.{difference}

pub unsaturated : (z : ℤ) → nat_abs z < 2 ^ 31 → saturate_to_bits 31 z ≡ z
unsaturated (pos x) h = ap pos (omega arith)
unsaturated (negsuc x) h = ap negsuc (omega arith)

abs_product : (a : ℕ) (p : ℤ) → nat_abs (pos a *ℤ p) ≡ a * nat_abs p
abs_product a (pos q) = refl
abs_product a (negsuc q) = omega (arith, ints)

-- the product of a setpoint of a board and a trim that may be ordered is at most 80,000,000, far from the bounds of 32 bits
pub computed_exactly : ComputedExactly
computed_exactly a p h l =
    let most : a * nat_abs p ≤ 400000 * 200 = mul-le-mul h l in
    ap thousandth (unsaturated (pos a *ℤ p) (omega (arith, abs_product a p)))

-- the setpoint a moved by a thousandth of at most two hundred times itself
moved : (a : ℕ) (x : ℤ) → nat_abs x ≤ a * 200 → (to : ℕ) × (pos a +ℤ thousandth x ≡ pos to) × (to ≤ a + a)
moved a (pos x) h = (a + x / 1000, refl, omega arith)
moved a (negsuc x) h = (a - suc x / 1000, omega (arith, ints), omega arith)

-- a trim by p of the setpoint a: the setpoint that it would write, and the tests on it
pub record Trimmed (a : ℕ) (p : ℤ) : Type 0 where
  pub to : ℕ
  pub sum : pos a +ℤ difference (pos a) p ≡ pos to
  pub judges : (k : ℤ) → judged p (pos a) k ≡ tested k (difference (pos a) p) (pos to)

pub trimmed : (a : ℕ) (p : ℤ) → a ≤ ceiling → nat_abs p ≤ 200 → Trimmed a p
trimmed a p h l =
    let d : ℤ = difference (pos a) p in
    let most : a * nat_abs p ≤ a * 200 = mul-le-mul (omega arith) l in
    let size : nat_abs (pos a *ℤ p) ≤ a * 200 = omega (arith, abs_product a p) in
    let (to, sum, high) = moved a (pos a *ℤ p) size in
    record {
      to = to;
      sum = sum;
      judges = λ k.
          ap (λ x. tested k x (saturate_to_bits 31 (pos a +ℤ x))) (computed_exactly a p h l) ∙
          ap (λ x. tested k d (saturate_to_bits 31 x)) sum ∙ ap (tested k d) (unsaturated (pos to) (omega arith));
    }
