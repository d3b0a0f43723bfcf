-- The flags of the stations, and what reading and writing one mean.
use Rattle.std.specs.Prelude.{ℕ, ◌-◌, Bool, false, cond, replicate, nat_le, slice_index_or, slice_set}
use Rattle.algorithm.specs.declared.flags.Flags.{Flags}

abbrev pub all_down : Flags
all_down = record { raised = replicate 16 false }

abbrev pub flag_in : Flags → ℕ → Bool
flag_in f i = cond (nat_le 1 i) (slice_index_or f.raised (i - 1) false) false

abbrev pub with_flag : Flags → ℕ → Bool → Flags
with_flag f i v = cond (nat_le 1 i) (record { raised = slice_set f.raised (i - 1) v }) f
