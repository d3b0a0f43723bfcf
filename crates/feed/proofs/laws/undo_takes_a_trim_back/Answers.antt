use Rattle.feed.proofs.Reversals.{trim_taken_back}
use Rattle.feed.proofs.laws.undo_takes_a_trim_back.Goals as goal

pub returns : goal.returns
returns c = trim_taken_back
