-- The output of a sheet.
use Rattle.std.specs.Prelude.{◌≡◌, ℕ, ◌<◌, ◌≤◌, List, ◌++◌, map, length, Some, None, Option}
use Rattle.std.specs.List.{flat_map}
use Rattle.answers.specs.Numbers.{refusal_number}
use Rattle.answers.specs.declared.Refusal.{Refusal}
use Rattle.runs.specs.declared.events.Call.{Call}
use Rattle.kinds.specs.Runs.{set_up_refusal, kind_events, kind_board}
use Rattle.runs.specs.declared.run.Fault.{Fault}
use Rattle.runs.specs.declared.run.Fault.TheVariants.{Refused, Memory}
use Rattle.sheet.specs.declared.calls.WrongForm.{WrongForm as WrongLine}
use Rattle.sheet.specs.declared.line.Call.{Call as Line}
use Rattle.kinds.specs.declared.set_up.SetUp.{SetUp}
use Rattle.sheet.specs.Line.{set_up_text, FitsSetUp, LegalFirst, Wrong}
use Rattle.sheet.specs.Sheet.{Later}
use Rattle.output.specs.declared.SheetRefusal.TheVariants.{WrongForm, TooLong}
use Rattle.sheet.specs.Calls.{to_call}
use Rattle.output.specs.Output.{set_up_line, event_line, end_lines, sheet_refusal_line}

-- why the set-up is refused, if it is
abbrev pub refusal_of : SetUp → Option Refusal
refusal_of x = set_up_refusal x.stations x.start

-- the set-up's line, a line for what came of each call, and the lines of the end
abbrev pub run_lines : SetUp → List Call → Option WrongLine → List ℕ
run_lines x calls wrong = set_up_line x 0 ++ (flat_map event_line (kind_events x.kind x.stations x.start calls) ++ end_lines wrong (kind_board x.kind x.stations x.start calls))

-- the output of a set-up that is not refused: the calls are those that the text after the first line reads as
pub record Run (x : SetUp) (later out : List ℕ) : Type 0 where
  pub lines : List Line
  pub wrong : Option WrongLine
  pub read : Later 2 later lines wrong
  pub written : out ≡ run_lines x (map to_call lines) wrong

-- where no run is made, the set-up is refused, or there is no memory
abbrev pub RefusedFor : SetUp → Fault → Type 0
RefusedFor x (Refused refusal) = refusal_of x ≡ Some refusal
RefusedFor x Memory = Unit {0}

-- the text begins with a set-up
pub record Begins (text : List ℕ) (x : SetUp) (later : List ℕ) : Type 0 where
  pub fits : FitsSetUp x
  pub split : text ≡ set_up_text x ++ later

-- the output: 'X' for a sheet of more than 65,000 bytes, 'X' for a first line of wrong form, the one line of a set-up that is refused,
-- or what comes of the calls
pub data Answered (text out : List ℕ) : Type 0 where
  too_long : 65000 < length text → out ≡ sheet_refusal_line TooLong → Answered text out
  wrong_first : length text ≤ 65000 → (column : ℕ) → Wrong LegalFirst text column → out ≡ sheet_refusal_line (WrongForm (record { line = 1; column = column })) → Answered text out
  refused : length text ≤ 65000 → (x : SetUp) (later : List ℕ) → Begins text x later → (refusal : Refusal) → refusal_of x ≡ Some refusal → out ≡ set_up_line x (refusal_number refusal) → Answered text out
  run : length text ≤ 65000 → (x : SetUp) (later : List ℕ) → Begins text x later → refusal_of x ≡ None → Run x later out → Answered text out

-- a sheet has one output
abbrev pub OneOutput : Type 0
OneOutput = (text out other : List ℕ) → Answered text out → Answered text other → out ≡ other
