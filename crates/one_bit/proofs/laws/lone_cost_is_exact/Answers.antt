use Rattle.one_bit.proofs.Climb.{exactly}
use Rattle.one_bit.proofs.laws.lone_cost_is_exact.Goals as goal

pub returns : goal.returns
returns c = exactly
