-- The words for a stage, and for a wrong number of stations.
use Rattle.std.specs.Prelude.{ℕ, List, codes}
use Rattle.lock.specs.declared.stage.Stage.{Stage}
use Rattle.lock.specs.declared.stage.Stage.TheVariants.{Rest, Trying, Inside, Leaving}

abbrev pub stage_words : Stage → List ℕ
stage_words Rest = codes "at rest"
stage_words Trying = codes "trying"
stage_words Inside = codes "inside"
stage_words Leaving = codes "leaving"

abbrev pub wrong_count_words : List ℕ
wrong_count_words = codes "a rack has 1 to 16 stations"
