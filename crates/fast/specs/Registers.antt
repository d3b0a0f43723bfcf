-- What reading and writing a register mean.
use Rattle.std.specs.Prelude.{ℕ, Bool, cond, not, ◌==◌}
use Rattle.algorithm.specs.Flags.{flag_in, with_flag}
use Rattle.fast.specs.declared.register.Register.{Register}
use Rattle.fast.specs.declared.register.Register.TheVariants.{X, Y, Flag}
use Rattle.fast.specs.declared.shared.Shared.{Shared}

-- a raised flag is read as 1
abbrev pub value_of : Shared → Register → ℕ
value_of s X = s.x
value_of s Y = s.y
value_of s (Flag j) = cond (flag_in s.flags j) 1 0

-- a flag is raised by any value but 0
abbrev pub raises : ℕ → Bool
raises v = not (v == 0)

abbrev pub with_value : Shared → Register → ℕ → Shared
with_value s X v = record { x = v; y = s.y; flags = s.flags }
with_value s Y v = record { x = s.x; y = v; flags = s.flags }
with_value s (Flag j) v = record { x = s.x; y = s.y; flags = with_flag s.flags j (raises v) }
