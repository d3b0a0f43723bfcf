-- What the jobs' rules share: the limits, a trim's difference, the numbers of the verdicts.
use Rattle.std.specs.Prelude.{ℕ, Bool, false, ℤ, pos, negsuc, ◌==◌, int_div}
use Rattle.feed.specs.declared.job.Verdict.{Verdict}
use Rattle.feed.specs.declared.job.Verdict.TheVariants.{Done, PileFull, OverCeiling, NothingToUndo, SetpointDiffers}

-- the highest setpoint, in kg/h
abbrev pub ceiling : ℕ
ceiling = 400000

-- the most entries of a pile
abbrev pub most_entries : ℕ
most_entries = 64

-- a trim's difference from setpoint times permille: the fraction dropped towards zero
abbrev pub thousandth : ℤ → ℤ
thousandth x = int_div x (pos 1000)

-- whether two numbers are the same
abbrev pub same : ℤ → ℤ → Bool
same (pos a) (pos b) = a == b
same (pos a) (negsuc b) = false
same (negsuc a) (pos b) = false
same (negsuc a) (negsuc b) = a == b

abbrev pub verdict_number : Verdict → ℕ
verdict_number Done = 1
verdict_number PileFull = 2
verdict_number OverCeiling = 3
verdict_number NothingToUndo = 4
verdict_number SetpointDiffers = 5
