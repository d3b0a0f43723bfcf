-- The algorithm whole, and the lock by it.
use Rattle.std.specs.Prelude.{ℕ, Bool, List, Option}
use Rattle.bus.specs.declared.Access.{Access}
use Rattle.lock.specs.declared.stage.Stage.{Stage}
use Rattle.algorithm.specs.declared.PlaceLock.{PlaceLock}
use Rattle.algorithm.specs.Flags.{all_down, flag_in}
use Rattle.algorithm.specs.Plan.{Plan}
use Rattle.algorithm.specs.Turns as by
use Rattle.fast.specs.declared.register.Register.{Register}
use Rattle.fast.specs.declared.shared.Shared.{Shared}
use Rattle.fast.specs.declared.place.Place.{Place}
use Rattle.fast.specs.declared.place.Place.TheVariants.{Idle, Raise, Release}
use Rattle.fast.specs.Places.{stage_at, access_at}
use Rattle.fast.specs.Registers.{value_of, with_value}
use Rattle.fast.specs.Turns.{next}

abbrev pub fast_plan : Plan Place Shared Register ℕ
fast_plan = record {
  idle = Idle;
  entry = Raise;
  exit = Release;
  registers = record { x = 0; y = 0; flags = all_down };
  stage_at = stage_at;
  access_at = access_at;
  next = next;
}

abbrev pub Fast : Type 0
Fast = PlaceLock Place Shared

-- all at rest
abbrev pub fresh : ℕ → Fast
fresh = by.fresh fast_plan

abbrev pub place_of : Fast → ℕ → Place
place_of = by.place_of fast_plan

abbrev pub flag_of : Fast → ℕ → Bool
flag_of l j = flag_in l.registers.flags j

abbrev pub stages : Fast → List Stage
stages = by.stages fast_plan

abbrev pub stepped : Fast → ℕ → Place → Option (Access Register ℕ) → Fast
stepped = by.stepped fast_plan value_of with_value

abbrev pub turned : Fast → ℕ → Fast
turned = by.turned fast_plan value_of with_value
