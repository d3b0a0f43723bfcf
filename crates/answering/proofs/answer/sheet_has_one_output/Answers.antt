use Rattle.answering.proofs.OneOutput.{one_output}
use Rattle.answering.proofs.answer.sheet_has_one_output.Goals as goal

pub returns : goal.returns
returns c = one_output
