-- What a test of two station numbers gives, and two values that cannot both be.
use Rattle.std.proofs.Common.{◌≡◌, ℕ, cond, eqb, refl, arith}
use Rattle.std.proofs.lemmas.Bool.{cond-true, cond-false, eq-eqb, ne_eqb}

-- where two constructors would be equal, cc proves this of 0 and 1
pub never : {X : Type 0} → ◌≡◌ {A = ℕ} 0 1 → X
never e = absurd (omega arith)

pub cond_at : {X : Type 0} (i : ℕ) (x y : X) → cond (eqb i i) x y ≡ x
cond_at i x y = cond-true (eqb i i) x y (eq-eqb i i refl)

pub cond_off : {X : Type 0} (i j : ℕ) (x y : X) → (i ≡ j → ⊥) → cond (eqb i j) x y ≡ y
cond_off i j x y h = cond-false (eqb i j) x y (ne_eqb i j h)
