-- What a lone station pays, exactly.
use Rattle.lock.specs.Meaning.{Exactly}
use Rattle.one_bit.specs.Meaning.{one_bit_meaning}

abbrev pub LoneCost : Type 0
LoneCost = Exactly one_bit_meaning (λ n. n) (λ _. 1)
