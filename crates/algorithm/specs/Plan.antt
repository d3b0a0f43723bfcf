-- What an algorithm is: places `P`, registers `M` with names `R` and values `V`, and what a station does at a place.
use Rattle.std.specs.Prelude.{◌≡◌, ℕ, is_some, Some, Option}
use Rattle.bus.specs.declared.Access.{Access}
use Rattle.lock.specs.declared.stage.Stage.{Stage}
use Rattle.lock.specs.declared.stage.Stage.TheVariants.{Rest}
use Rattle.lock.specs.Stages.{moving}

pub record Plan (P M R V : Type 0) : Type 0 where
  -- where a station rests, where it begins, and where it ends its time inside
  pub idle : P
  pub entry : P
  pub exit : P
  -- the registers while all rest
  pub registers : M
  pub stage_at : P → Stage
  -- the one access of station i; none at rest and none inside
  pub access_at : ℕ → P → Option (Access R V)
  -- where a turn takes station i among n, by its place and the value that went over the bus
  pub next : ℕ → ℕ → P → V → P

-- a station rests at its first place, and has an access to make where it tries or leaves, and only there
pub record Coherent {P M R V : Type 0} (a : Plan P M R V) : Type 0 where
  pub rests : a.stage_at a.idle ≡ Rest
  pub moves : (i : ℕ) (p : P) → moving (Some (a.stage_at p)) ≡ is_some (a.access_at i p)
