-- How many stations are at a stage: when one station's stage is altered, and when all rest.
use Rattle.std.proofs.Common.{◌≡◌, ℕ, zero, suc, ◌+◌, ◌<◌, Bool, false, cond, List, [], ◌∷◌, length, set, Some, refl, ap, arith}
use Rattle.std.specs.List.{count_by, slice_get}
use Rattle.std.proofs.lemmas.List.Sums.{sum_by-cons}
use Rattle.lock.specs.declared.stage.Stage.{Stage}
use Rattle.lock.specs.declared.stage.Stage.TheVariants.{Rest}
use Rattle.lock.specs.Stages.{asked, moved, AllRest}
use Rattle.runs.proofs.Tests.{never}

abbrev pub bit : Bool → ℕ
bit b = cond b 1 0

module _ (p : Stage → Bool) where
  abbrev each : Stage → ℕ
  each x = bit (p x)

  tally-set : (s : List Stage) (k : ℕ) (x y : Stage) → slice_get s k ≡ Some x → count_by p (set s k y) + bit (p x) ≡ count_by p s + bit (p y)
  tally-set [] k x y e = never (cc)
  tally-set (w ∷ s) zero x y e = let d : w ≡ x = cc in let b = ap (λ v. bit (p v)) d in omega (arith, sum_by-cons each y s, sum_by-cons each w s)
  tally-set (w ∷ s) (suc k) x y e = let r = tally-set s k x y e in omega (arith, sum_by-cons each w (set s k y), sum_by-cons each w s)

  pub tally-moved : (s : List Stage) (i : ℕ) (x y : Stage) → asked s i ≡ Some x → count_by p (moved s i y) + bit (p x) ≡ count_by p s + bit (p y)
  tally-moved s zero x y e = never (cc)
  tally-moved s (suc k) x y e = tally-set s k x y e

  module _ (not_at_rest : p Rest ≡ false) where
    tally_rest : (s : List Stage) → ((k : ℕ) → k < length s → slice_get s k ≡ Some Rest) → count_by p s ≡ 0
    tally_rest [] h = refl
    tally_rest (x ∷ s) h =
        let first = h 0 (omega arith) in
        let d : x ≡ Rest = cc in
        let none : bit (p x) ≡ 0 = cc in
        let others = tally_rest s (λ k l. h (suc k) (omega arith)) in
        omega (arith, sum_by-cons each x s)

    pub tally_all_rest : (s : List Stage) → AllRest s → count_by p s ≡ 0
    tally_all_rest s h = tally_rest s (λ k l. h (suc k) (omega arith, omega arith))
