-- The algorithm whole, and the lock by it.
use Rattle.std.specs.Prelude.{ℕ, Bool, List, Option}
use Rattle.bus.specs.declared.Access.{Access}
use Rattle.lock.specs.declared.stage.Stage.{Stage}
use Rattle.algorithm.specs.declared.PlaceLock.{PlaceLock}
use Rattle.algorithm.specs.Flags.{all_down, flag_in}
use Rattle.algorithm.specs.Plan.{Plan}
use Rattle.algorithm.specs.Turns as by
use Rattle.one_bit.specs.declared.register.Register.{Register}
use Rattle.one_bit.specs.declared.shared.Shared.{Shared}
use Rattle.one_bit.specs.declared.place.Place.{Place}
use Rattle.one_bit.specs.declared.place.Place.TheVariants.{Idle, Raise, Lower}
use Rattle.one_bit.specs.Places.{stage_at, access_at}
use Rattle.one_bit.specs.Registers.{value_of, with_value}
use Rattle.one_bit.specs.Turns.{next}

abbrev pub one_bit_plan : Plan Place Shared Register Bool
one_bit_plan = record {
  idle = Idle;
  entry = Raise;
  exit = Lower;
  registers = record { flags = all_down };
  stage_at = stage_at;
  access_at = access_at;
  next = next;
}

abbrev pub OneBit : Type 0
OneBit = PlaceLock Place Shared

-- all at rest
abbrev pub fresh : ℕ → OneBit
fresh = by.fresh one_bit_plan

abbrev pub place_of : OneBit → ℕ → Place
place_of = by.place_of one_bit_plan

abbrev pub flag_of : OneBit → ℕ → Bool
flag_of l j = flag_in l.registers.flags j

abbrev pub stages : OneBit → List Stage
stages = by.stages one_bit_plan

abbrev pub stepped : OneBit → ℕ → Place → Option (Access Register Bool) → OneBit
stepped = by.stepped one_bit_plan value_of with_value

abbrev pub turned : OneBit → ℕ → OneBit
turned = by.turned one_bit_plan value_of with_value
