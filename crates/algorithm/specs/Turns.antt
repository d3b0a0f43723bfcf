-- A turn: the one access that the place makes, and then the next place, by the place and the value that went over the bus.
use Rattle.std.specs.Prelude.{ℕ, ◌-◌, cond, ◌||◌, replicate, List, Some, None, Ok, Err, Option, Result, ◌==◌, nat_le, nat_lt, slice_get, slice_set}
use Rattle.bus.specs.declared.Access.{Access}
use Rattle.bus.specs.Registers.{performed, carried}
use Rattle.lock.specs.declared.count.WrongStationCount.{WrongStationCount}
use Rattle.lock.specs.declared.stage.Stage.{Stage}
use Rattle.lock.specs.Places.{place_among, stages_among}
use Rattle.lock.specs.Stages.{is_resting, is_inside}
use Rattle.algorithm.specs.declared.PlaceLock.{PlaceLock}
use Rattle.algorithm.specs.Plan.{Plan}

-- the place of a station; none for a number that is no station's
abbrev pub found : {P M : Type 0} → PlaceLock P M → ℕ → Option P
found l i = cond (nat_le 1 i) (cond (nat_le i l.n) (slice_get l.places (i - 1)) None) None

module _ {P M R V : Type 0} (a : Plan P M R V) where
  -- a station's place; a number that is no station's has nothing to do
  abbrev pub place_of : PlaceLock P M → ℕ → P
  place_of l i = place_among a.idle l.n l.places i

  abbrev pub stages : PlaceLock P M → List Stage
  stages l = stages_among a.stage_at l.n l.places

  -- all at rest
  abbrev pub fresh : ℕ → PlaceLock P M
  fresh n = record { n = n; registers = a.registers; places = replicate 16 a.idle }

  abbrev pub made_for : ℕ → Result (PlaceLock P M) WrongStationCount
  made_for n = cond (n == 0 || nat_lt 16 n) (Err (record {})) (Ok (fresh n))

abbrev pub with_place : {P M : Type 0} → PlaceLock P M → ℕ → P → PlaceLock P M
with_place l i p = cond (nat_le 1 i) (record { n = l.n; registers = l.registers; places = slice_set l.places (i - 1) p }) l

abbrev pub with_registers : {P M : Type 0} → PlaceLock P M → M → PlaceLock P M
with_registers l m = record { n = l.n; registers = m; places = l.places }

module _ {P M R V : Type 0} (a : Plan P M R V) (value_of : M → R → V) (with_value : M → R → V → M) where
  -- from a place, by its one access: the access, and the place after it; nothing where there is no access to make
  abbrev pub stepped : PlaceLock P M → ℕ → P → Option (Access R V) → PlaceLock P M
  stepped l i p None = l
  stepped l i p (Some s) = with_place (with_registers l (performed with_value l.registers s)) i (a.next l.n i p (carried value_of l.registers s))

  abbrev pub turned : PlaceLock P M → ℕ → PlaceLock P M
  turned l i = stepped l i (place_of a l i) (a.access_at i (place_of a l i))

-- to begin and to end alters a place and makes no access
module _ {P M R V : Type 0} (a : Plan P M R V) where
  abbrev pub begun : PlaceLock P M → ℕ → PlaceLock P M
  begun l i = cond (is_resting (stages a l) i) (with_place l i a.entry) l

  abbrev pub ended : PlaceLock P M → ℕ → PlaceLock P M
  ended l i = cond (is_inside (stages a l) i) (with_place l i a.exit) l
