-- What the lock means to whoever uses it.
use Rattle.std.specs.Prelude.{◌+◌}
use Rattle.lock.specs.Meaning.{Meaning}
use Rattle.algorithm.specs.Meaning.{Claims, meaning_by}
use Rattle.one_bit.specs.Places.{to_come}
use Rattle.one_bit.specs.Registers.{value_of, with_value}
use Rattle.one_bit.specs.Plan.{OneBit, one_bit_plan, place_of}
use Rattle.one_bit.specs.Sound.{Sound}

abbrev pub one_bit_claims : Claims OneBit
one_bit_claims = record { sound = Sound; lone = λ l. l.n + 2; leave = λ _. 1; left = λ l i. to_come l.n (place_of l i) }

abbrev pub one_bit_meaning : Meaning OneBit
one_bit_meaning = meaning_by one_bit_plan value_of with_value one_bit_claims
