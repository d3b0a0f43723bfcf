-- What the tests of a stage say.
use Rattle.std.proofs.Common.{◌≡◌, ℕ, true, ◌⊎◌, List, Some, arith}
use Rattle.lock.specs.declared.stage.Stage.{Stage}
use Rattle.lock.specs.declared.stage.Stage.TheVariants.{Rest, Trying, Inside, Leaving}
use Rattle.lock.specs.Stages.{asked, is_resting, is_moving, is_inside}

module _ (s : List Stage) (i : ℕ) where
  pub resting-asked : is_resting s i ≡ true → asked s i ≡ Some Rest
  resting-asked e = grind arith

  pub moving-asked : is_moving s i ≡ true → (asked s i ≡ Some Trying) ⊎ (asked s i ≡ Some Leaving)
  moving-asked e = grind arith

  pub inside-asked : is_inside s i ≡ true → asked s i ≡ Some Inside
  inside-asked e = grind arith
