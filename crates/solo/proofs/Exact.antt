-- The only station is inside with its first turn, and at rest with its first turn after its end.
use Rattle.std.proofs.Common.{◌≡◌, ℕ, zero, suc, ◌<◌, [], ◌∷◌, Some, refl, subst, arith}
use Rattle.lock.specs.declared.stage.Stage.{Stage}
use Rattle.lock.specs.declared.stage.Stage.TheVariants.{Rest, Trying, Inside, Leaving}
use Rattle.lock.specs.Stages.{asked}
use Rattle.lock.specs.Meaning.{Exactly, turns}
use Rattle.solo.specs.Meaning.{solo_meaning}
use Rattle.solo.specs.declared.Solo.{Solo}

-- what holds of station 1 at a stage holds of every station at that stage
for_one_station : (P : Solo → ℕ → Type 0) (l : Solo) (i : ℕ) (x : Stage) → asked (l.only ∷ []) i ≡ Some x → P (record { only = x }) 1 → P l i
for_one_station P l zero x e p = let z : ◌≡◌ {A = ℕ} 0 1 = cc in absurd (omega arith)
for_one_station P l (suc zero) x e p = let same : x ≡ l.only = cc in subst (λ z. P (record { only = z }) 1) same p
for_one_station P l (suc (suc i)) x e p = let z : ◌≡◌ {A = ℕ} 0 1 = cc in absurd (omega arith)

abbrev stage_after : ℕ → (Solo → ℕ → Solo) → Stage → Solo → ℕ → Type 0
stage_after k function x l i = asked (solo_meaning.stages (turns solo_meaning k (function l i) i)) i ≡ Some x

before_the_first : (P : ℕ → Type 0) (k : ℕ) → k < 1 → P 0 → P k
before_the_first P k less p = let none : 0 ≡ k = omega arith in subst P none p

pub exact : Exactly solo_meaning (λ _. 1) (λ _. 1)
exact =
    record {
      waits = λ l i k sound rest st less.
          for_one_station (stage_after k solo_meaning.begun Trying) l i Rest (rest i st) (before_the_first (λ z. stage_after z solo_meaning.begun Trying (record { only = Rest }) 1) k less refl);
      enters = λ l i sound rest st. for_one_station (stage_after 1 solo_meaning.begun Inside) l i Rest (rest i st) refl;
      stays = λ l i k sound here less.
          for_one_station (stage_after k solo_meaning.ended Leaving) l i Inside here (before_the_first (λ z. stage_after z solo_meaning.ended Leaving (record { only = Inside }) 1) k less refl);
      rests = λ l i sound here. for_one_station (stage_after 1 solo_meaning.ended Rest) l i Inside here refl;
    }
