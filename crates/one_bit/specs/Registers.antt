-- What reading and writing a register mean.
use Rattle.std.specs.Prelude.{Bool}
use Rattle.algorithm.specs.Flags.{flag_in, with_flag}
use Rattle.one_bit.specs.declared.register.Register.{Register}
use Rattle.one_bit.specs.declared.register.Register.TheVariants.{Flag}
use Rattle.one_bit.specs.declared.shared.Shared.{Shared}

abbrev pub value_of : Shared → Register → Bool
value_of s (Flag j) = flag_in s.flags j

abbrev pub with_value : Shared → Register → Bool → Shared
with_value s (Flag j) v = record { flags = with_flag s.flags j v }
