use Rattle.feed.proofs.Fits.{fit_sum}
use Rattle.feed.proofs.laws.setpoint_is_start_plus_pile.Goals as goal

pub returns : goal.returns
returns c = λ start n b f. fit_sum b f
