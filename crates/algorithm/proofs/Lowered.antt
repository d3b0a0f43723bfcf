-- Where all flags are down, each is.
use Rattle.std.proofs.Common.{◌≡◌, ℕ, ◌-◌, ◌≤◌, false, arith}
use lib.ListN.{get_or-replicate}
use Rattle.algorithm.specs.Flags.{all_down, flag_in}

pub down_at : (i : ℕ) → i ≤ 16 → flag_in all_down i ≡ false
down_at i h = let e = get_or-replicate 16 (i - 1) false false in grind arith
