-- The words for a refusal.
use Rattle.std.specs.Prelude.{ℕ, List, codes}
use Rattle.lock.specs.Words.{wrong_count_words}
use Rattle.answers.specs.declared.Refusal.{Refusal}
use Rattle.answers.specs.declared.Refusal.TheVariants.{StationCount, Start, StationNumber, TrimValue, SignValue, NotResting, Resting}

abbrev pub refusal_words : Refusal → List ℕ
refusal_words StationCount = wrong_count_words
refusal_words Start = codes "a start is at most 400000 kg/h"
refusal_words StationNumber = codes "there is no such station"
refusal_words TrimValue = codes "a trim is -200 to 200 permille, and not 0"
refusal_words SignValue = codes "a signature is for 0 to 400000 kg/h"
refusal_words NotResting = codes "the station is not at rest"
refusal_words Resting = codes "the station is at rest"
