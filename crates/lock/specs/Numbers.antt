-- The numbers by which stages and refusals are shown.
use Rattle.std.specs.Prelude.{ℕ}
use Rattle.lock.specs.declared.stage.Stage.{Stage}
use Rattle.lock.specs.declared.stage.Stage.TheVariants.{Rest, Trying, Inside, Leaving}

abbrev pub stage_number : Stage → ℕ
stage_number Rest = 0
stage_number Trying = 1
stage_number Inside = 2
stage_number Leaving = 3

-- of a number of stations outside 1 to 16
abbrev pub wrong_count_number : ℕ
wrong_count_number = 1
