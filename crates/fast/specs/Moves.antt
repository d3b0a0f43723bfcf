-- A move of a station: its turn, begin or end. It writes X, Y or the station's own flag, or none, and sets the station's place.
use Rattle.std.specs.Prelude.{◌≡◌, ℕ, ◌-◌, Bool, ◌⊎◌, Some, None, Option, slice_set}
use Rattle.std.proofs.Common.{arith}
use Rattle.std.proofs.lemmas.List.{set-get_or}
use Rattle.bus.specs.declared.Access.{Access}
use Rattle.bus.specs.declared.Access.TheVariants.{Read, Write}
use Rattle.bus.specs.Registers.{performed, carried}
use Rattle.algorithm.specs.Turns.{with_place}
use Rattle.fast.specs.declared.register.Register.{Register}
use Rattle.fast.specs.declared.register.Register.TheVariants.{X, Y, Flag}
use Rattle.fast.specs.declared.place.Place.{Place}
use Rattle.fast.specs.declared.place.Place.TheVariants.{Idle, Raise, Within, Release}
use Rattle.fast.specs.Places.{access_at}
use Rattle.fast.specs.Registers.{raises, value_of, with_value}
use Rattle.fast.specs.Turns.{next}
use Rattle.fast.specs.Plan.{Fast, place_of, flag_of, stepped}
use Rattle.fast.specs.Sound.{Numbered}

-- what X, Y, and the station's flag and place are after a move
pub record Outcome : Type 0 where
  pub x : ℕ
  pub y : ℕ
  pub flag : Bool
  pub place : Place

abbrev pub put : Fast → ℕ → Outcome → Fast
put l i w = record { n = l.n; registers = record { x = w.x; y = w.y; flags = record { raised = slice_set l.registers.flags.raised (i - 1) w.flag } }; places = slice_set l.places (i - 1) w.place }

-- no register is written
abbrev pub going : Fast → ℕ → Place → Outcome
going l i p = record { x = l.registers.x; y = l.registers.y; flag = flag_of l i; place = p }

-- the flag of station i after an access of its own
abbrev flag_after : Fast → ℕ → Access Register ℕ → Bool
flag_after l i (Read r) = flag_of l i
flag_after l i (Write X v) = flag_of l i
flag_after l i (Write Y v) = flag_of l i
flag_after l i (Write (Flag j) v) = raises v

-- of a turn, by the access of the place
abbrev pub outcome : Fast → ℕ → Place → Option (Access Register ℕ) → Outcome
outcome l i p None = going l i p
outcome l i p (Some a) = record { x = (performed with_value l.registers a).x; y = (performed with_value l.registers a).y; flag = flag_after l i a; place = next l.n i p (carried value_of l.registers a) }

-- the moves of station i from the place p: a turn, a begin at rest, and an end inside
abbrev pub Move : Fast → ℕ → Place → Outcome → Type 0
Move l i p w = (w ≡ outcome l i p (access_at i p)) ⊎ (((p ≡ Idle) × (w ≡ going l i Raise)) ⊎ ((p ≡ Within) × (w ≡ going l i Release)))

module _ (l : Fast) (i : ℕ) (h : Numbered l i) where
  pub going_put : (p : Place) → with_place l i p ≡ put l i (going l i p)
  going_put p = grind (arith, set-get_or)

  pub step_put : (p : Place) → place_of l i ≡ p → stepped l i p (access_at i p) ≡ put l i (outcome l i p (access_at i p))
  step_put p e = grind (arith, set-get_or)
