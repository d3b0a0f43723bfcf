-- With a buffer of the bound's size, the output has room.
use Rattle.std.proofs.Common.{◌≡◌, ℕ, ◌≤◌, List, length, arith}
use Rattle.setpoint_c.specs.declared.outcome.Outcome.{Outcome}
use Rattle.setpoint_c.specs.declared.outcome.Outcome.TheVariants.{Written, TooSmall, NoMemory}
use Rattle.setpoint_c.specs.Outcomes.{outcome_number}
use Rattle.setpoint_c.specs.Bound.{output_bound}
use Rattle.setpoint_c.specs.Left.{Left, answered, no_memory}
use Rattle.setpoint_c.proofs.Lengths.{bound_suffices}

module _ (sheet before after : List ℕ) (told : ℕ) (room : output_bound (length sheet) ≤ length before) where
  not_left : Left sheet before TooSmall after told → ⊥
  not_left (answered output a p) = let short = bound_suffices sheet output a in omega (arith, p.0)
  not_left (no_memory e f g) = let z : ◌≡◌ {A = ℕ} 0 1 = cc in omega arith

  pub not_small : (o : Outcome) → Left sheet before o after told → outcome_number o ≡ outcome_number TooSmall → ⊥
  not_small Written l e = omega arith
  not_small TooSmall l e = not_left l
  not_small NoMemory l e = omega arith
