-- What a lone station pays, exactly.
use Rattle.lock.specs.Meaning.{Exactly}
use Rattle.fast.specs.Meaning.{fast_meaning}

abbrev pub LoneCost : Type 0
LoneCost = Exactly fast_meaning (λ _. 5) (λ _. 2)
