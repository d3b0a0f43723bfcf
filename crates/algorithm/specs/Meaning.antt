-- What a lock by an algorithm means to whoever uses it.
use Rattle.std.specs.Prelude.{ℕ}
use Rattle.lock.specs.Meaning.{Meaning}
use Rattle.algorithm.specs.declared.PlaceLock.{PlaceLock}
use Rattle.algorithm.specs.Plan.{Plan}
use Rattle.algorithm.specs.Turns.{stages, turned, begun, ended}

-- what an algorithm claims of its locks: which are sound, the most turns that a lone trying station needs to get in and a leaving station
-- to rest, and each station's turns still to come
pub record Claims (L : Type 0) : Type 1 where
  pub sound : L → Type 0
  pub lone : L → ℕ
  pub leave : L → ℕ
  pub left : L → ℕ → ℕ

abbrev pub meaning_by : {P M R V : Type 0} → Plan P M R V → (M → R → V) → (M → R → V → M) → Claims (PlaceLock P M) → Meaning (PlaceLock P M)
meaning_by a value_of with_value c = record {
  stages = stages a;
  begun = begun a;
  turned = turned a value_of with_value;
  ended = ended a;
  sound = c.sound;
  lone = c.lone;
  leave = c.leave;
  left = c.left;
}
