-- What the lock means to whoever uses it.
use Rattle.std.specs.Prelude.{ℕ, ◌+◌}
use Rattle.lock.specs.Meaning.{Meaning}
use Rattle.algorithm.specs.Meaning.{Claims, meaning_by}
use Rattle.fast.specs.Places.{to_come}
use Rattle.fast.specs.Registers.{value_of, with_value}
use Rattle.fast.specs.Plan.{Fast, fast_plan, place_of}
use Rattle.fast.specs.Sound.{Sound}

abbrev pub left : Fast → ℕ → ℕ
left l i = to_come l.n l.registers.x l.registers.y i (place_of l i)

abbrev pub fast_claims : Claims Fast
fast_claims = record { sound = Sound; lone = λ l. l.n + 9; leave = λ _. 2; left = left }

abbrev pub fast_meaning : Meaning Fast
fast_meaning = meaning_by fast_plan value_of with_value fast_claims
