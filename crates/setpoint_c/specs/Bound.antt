-- The longest sheet, and a bound on the length of an output.
use Rattle.std.specs.Prelude.{◌≡◌, ℕ, ◌+◌, ◌<◌, ◌≤◌, min, List, length}
use Rattle.output.specs.declared.SheetRefusal.TheVariants.{TooLong}
use Rattle.output.specs.Output.{sheet_refusal_line}
use Rattle.answering.specs.Answer.{Answered}

-- in bytes
abbrev pub longest_sheet : ℕ
longest_sheet = 65000

-- a line for each line of the sheet, and three of 13 bytes at the end; a longer sheet has one line
abbrev pub output_bound : ℕ → ℕ
output_bound n = min n longest_sheet + 39

-- a sheet is refused as too long exactly if it has more bytes
abbrev pub RefusedAbove : Type 0
RefusedAbove =
    (sheet output : List ℕ) → Answered sheet output →
    (longest_sheet < length sheet → output ≡ sheet_refusal_line TooLong) × (output ≡ sheet_refusal_line TooLong → longest_sheet < length sheet)

-- no output is longer than the bound
abbrev pub BoundSuffices : Type 0
BoundSuffices = (sheet output : List ℕ) → Answered sheet output → length output ≤ output_bound (length sheet)
