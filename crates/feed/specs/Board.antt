-- The board: where its registers stand, what reading and writing one mean, and a fresh board.
use Rattle.std.specs.Prelude.{ℕ, ◌+◌, cond, List, ◌∷◌, replicate, ℤ, pos, negsuc, Some, None, Option, nat_le, slice_index_or, slice_set}
use Rattle.feed.specs.declared.board.Board.{Board}
use Rattle.feed.specs.declared.board.Register.{Register}
use Rattle.feed.specs.declared.board.Register.TheVariants.{Setpoint, Depth, Signer, Entry}

-- there is no entry but 1 to 64
abbrev pub entry_position : ℤ → Option ℕ
entry_position (pos k) = cond (nat_le 1 k) (cond (nat_le k 64) (Some (k + 2)) None) None
entry_position (negsuc k) = None

abbrev pub position_of : Register → Option ℕ
position_of Setpoint = Some 0
position_of Depth = Some 1
position_of Signer = Some 2
position_of (Entry k) = entry_position k

-- a board as its registers
abbrev pub board_of : List ℤ → Board
board_of rs = record { registers = rs }

-- a board by setpoint, depth, signer and entries
abbrev pub made : ℕ → ℕ → ℕ → List ℤ → Board
made a k w es = board_of (pos a ∷ pos k ∷ pos w ∷ es)

-- what stands at a position, and 0 at none
abbrev pub read_at : Board → Option ℕ → ℤ
read_at b (Some at) = slice_index_or b.registers at (pos 0)
read_at b None = pos 0

abbrev pub write_at : Board → Option ℕ → ℤ → Board
write_at b (Some at) v = board_of (slice_set b.registers at v)
write_at b None v = b

-- what stands in a register, and the board after one is written
abbrev pub read : Board → Register → ℤ
read b r = read_at b (position_of r)

abbrev pub write : Board → Register → ℤ → Board
write b r v = write_at b (position_of r) v

-- the start in the setpoint and 0 everywhere else
abbrev pub fresh : ℤ → Board
fresh start = write (board_of (replicate 67 (pos 0))) Setpoint start
