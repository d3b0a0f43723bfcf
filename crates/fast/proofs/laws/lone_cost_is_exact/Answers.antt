use Rattle.fast.proofs.Climb.{exactly}
use Rattle.fast.proofs.laws.lone_cost_is_exact.Goals as goal

pub returns : goal.returns
returns c = exactly
