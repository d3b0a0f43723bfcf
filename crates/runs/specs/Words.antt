-- The words for a run that gives no rack.
use Rattle.std.specs.Prelude.{ℕ, List, codes}
use Rattle.answers.specs.Words.{refusal_words}
use Rattle.runs.specs.declared.run.Fault.{Fault}
use Rattle.runs.specs.declared.run.Fault.TheVariants.{Refused, Memory}

abbrev pub fault_words : Fault → List ℕ
fault_words (Refused f) = refusal_words f
fault_words Memory = codes "there is not enough memory"
