-- A lock that keeps a place for each of its n stations: that of station i has the index i - 1.
use Rattle.std.specs.Prelude.{ℕ, ◌-◌, cond, List, map, take, nat_le, slice_index_or}
use Rattle.lock.specs.declared.stage.Stage.{Stage}

-- a station's place; a number that is no station's has nothing to do
abbrev pub place_among : {P : Type 0} → P → ℕ → List P → ℕ → P
place_among idle n places i = cond (nat_le 1 i) (cond (nat_le i n) (slice_index_or places (i - 1) idle) idle) idle

-- the stages of the stations, by the stage of each place
abbrev pub stages_among : {P : Type 0} → (P → Stage) → ℕ → List P → List Stage
stages_among stage_at n places = map stage_at (take n places)
