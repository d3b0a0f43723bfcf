-- The numbers of the stations for which a rack has room.
use Rattle.std.specs.Prelude.{ℕ, cond, Some, None, Option, ◌==◌, nat_lt}

abbrev pub numbered : ℕ → Option ℕ
numbered i = cond (i == 0) None (cond (nat_lt 16 i) None (Some i))
