-- A job access by access: the one access that comes next, and what is left to do after it.
use Rattle.std.specs.Prelude.{ℕ, cond, ℤ, pos, ◌+ℤ◌, ◌-ℤ◌, ◌*ℤ◌, int_le, int_lt}
use Rattle.std.specs.Int.{saturate_to_bits}
use Rattle.std.specs.declared.ops.ControlFlow.{ControlFlow}
use Rattle.std.specs.declared.ops.ControlFlow.TheVariants.{Continue, Break}
use Rattle.bus.specs.declared.Access.{Access}
use Rattle.bus.specs.declared.Access.TheVariants.{Read, Write}
use Rattle.bus.specs.Registers.{performed, carried}
use Rattle.feed.specs.Board.{read, write}
use Rattle.feed.specs.Job.{ceiling, most_entries, thousandth, same}
use Rattle.feed.specs.declared.board.Board.{Board}
use Rattle.feed.specs.declared.board.Register.{Register}
use Rattle.feed.specs.declared.board.Register.TheVariants.{Setpoint, Depth, Signer, Entry}
use Rattle.feed.specs.declared.job.Job.{Job}
use Rattle.feed.specs.declared.job.Job.TheVariants.{Trim, Undo, Sign}
use Rattle.feed.specs.declared.job.Verdict.{Verdict}
use Rattle.feed.specs.declared.job.Verdict.TheVariants.{Done, PileFull, OverCeiling, NothingToUndo, SetpointDiffers}
use Rattle.feed.specs.declared.task.Task.{Task}
use Rattle.feed.specs.declared.task.Task.TheVariants.{TrimReadSetpoint, TrimReadDepth, TrimWriteEntry, TrimWriteDepth, TrimWriteSetpoint, TrimClearSigner, UndoReadDepth, UndoReadEntry, UndoReadSetpoint, UndoWriteDepth, UndoWriteSetpoint, UndoClearSigner, SignReadSetpoint, SignWriteSigner}

-- what one access leaves: the task to continue with, or the verdict that breaks off
abbrev pub Progress : Type 0
Progress = ControlFlow Verdict Task

-- a job before its first access
abbrev pub begun : Job → Task
begun (Trim p) = TrimReadSetpoint p
begun Undo = UndoReadDepth
begun (Sign v) = SignReadSetpoint v

-- the one access that comes next, of station i
abbrev pub access_of : ℕ → Task → Access Register ℤ
access_of i (TrimReadSetpoint p) = Read Setpoint
access_of i (TrimReadDepth p a) = Read Depth
access_of i (TrimWriteEntry k d a) = Write (Entry k) d
access_of i (TrimWriteDepth k a) = Write Depth k
access_of i (TrimWriteSetpoint a) = Write Setpoint a
access_of i TrimClearSigner = Write Signer (pos 0)
access_of i UndoReadDepth = Read Depth
access_of i (UndoReadEntry e k) = Read (Entry e)
access_of i (UndoReadSetpoint k d) = Read Setpoint
access_of i (UndoWriteDepth k a) = Write Depth k
access_of i (UndoWriteSetpoint a) = Write Setpoint a
access_of i UndoClearSigner = Write Signer (pos 0)
access_of i (SignReadSetpoint v) = Read Setpoint
access_of i SignWriteSigner = Write Signer (pos i)

-- a trim that found the depth k, with its difference d and the setpoint a that it would write
abbrev pub tested : ℤ → ℤ → ℤ → Progress
tested k d a =
    cond (int_le (pos most_entries) k) (Break PileFull)
    (cond (int_lt (pos ceiling) a) (Break OverCeiling) (Continue (TrimWriteEntry (k +ℤ pos 1) d a)))

-- a trim's difference as numbers of 32 bits have it: the product stops at their bounds
abbrev pub computed : ℤ → ℤ → ℤ
computed a p = thousandth (saturate_to_bits 31 (a *ℤ p))

-- what a trim by p does once it has read the setpoint a and the depth k
abbrev pub judged : ℤ → ℤ → ℤ → Progress
judged p a k = tested k (thousandth (saturate_to_bits 31 (a *ℤ p))) (saturate_to_bits 31 (a +ℤ thousandth (saturate_to_bits 31 (a *ℤ p))))

-- the setpoint before a trim that made the difference d
abbrev pub restored : ℤ → ℤ → ℤ
restored a d = saturate_to_bits 31 (a -ℤ d)

-- what an undo does once it has read the depth k
abbrev pub undone : ℤ → Progress
undone k = cond (int_lt k (pos 1)) (Break NothingToUndo) (Continue (UndoReadEntry k (k -ℤ pos 1)))

-- what is left to do, from the place and the value that went over the bus
abbrev pub progress : Task → ℤ → Progress
progress (TrimReadSetpoint p) x = Continue (TrimReadDepth p x)
progress (TrimReadDepth p a) x = judged p a x
progress (TrimWriteEntry k d a) x = Continue (TrimWriteDepth k a)
progress (TrimWriteDepth k a) x = Continue (TrimWriteSetpoint a)
progress (TrimWriteSetpoint a) x = Continue TrimClearSigner
progress TrimClearSigner x = Break Done
progress UndoReadDepth x = cond (int_lt x (pos 1)) (Break NothingToUndo) (Continue (UndoReadEntry x (x -ℤ pos 1)))
progress (UndoReadEntry e k) x = Continue (UndoReadSetpoint k x)
progress (UndoReadSetpoint k d) x = Continue (UndoWriteDepth k (saturate_to_bits 31 (x -ℤ d)))
progress (UndoWriteDepth k a) x = Continue (UndoWriteSetpoint a)
progress (UndoWriteSetpoint a) x = Continue UndoClearSigner
progress UndoClearSigner x = Break Done
progress (SignReadSetpoint v) x = cond (same x v) (Continue SignWriteSigner) (Break SetpointDiffers)
progress SignWriteSigner x = Break Done

-- one access of station i: the board after it, and what is left to do
abbrev pub board_after : ℕ → Board → Task → Board
board_after i b t = performed write b (access_of i t)

abbrev pub left_to_do : ℕ → Board → Task → Progress
left_to_do i b t = progress t (carried read b (access_of i t))
