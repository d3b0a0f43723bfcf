-- The words for a job and for a verdict.
use Rattle.std.specs.Prelude.{ℕ, List, ◌++◌, codes}
use Rattle.std.specs.Fmt.{signed_decimal}
use Rattle.feed.specs.declared.job.Job.{Job}
use Rattle.feed.specs.declared.job.Job.TheVariants.{Trim, Undo, Sign}
use Rattle.feed.specs.declared.job.Verdict.{Verdict}
use Rattle.feed.specs.declared.job.Verdict.TheVariants.{Done, PileFull, OverCeiling, NothingToUndo, SetpointDiffers}

-- what a station is ordered to do
abbrev pub job_words : Job → List ℕ
job_words (Trim p) = codes "trim by " ++ signed_decimal p ++ codes " permille"
job_words Undo = codes "undo the newest trim"
job_words (Sign v) = codes "sign " ++ signed_decimal v ++ codes " kg/h"

-- how a job ended
abbrev pub verdict_words : Verdict → List ℕ
verdict_words Done = codes "done"
verdict_words PileFull = codes "the pile is full"
verdict_words OverCeiling = codes "over the ceiling"
verdict_words NothingToUndo = codes "nothing to undo"
verdict_words SetpointDiffers = codes "the setpoint differs"
