-- The lines of the output: those of the calls have the letter and the station of the call.
use Rattle.std.specs.Prelude.{ℕ, List, [], ◌++◌, Some, None, decimal, Option, codes}
use Rattle.std.specs.Fmt.{signed_decimal}
use Rattle.answers.specs.Numbers.{order_number, slot_number}
use Rattle.answers.specs.declared.View.{View}
use Rattle.runs.specs.declared.events.Event.{Event}
use Rattle.runs.specs.declared.events.Event.TheVariants.{Ordered, Slotted, Looked, Shown}
use Rattle.sheet.specs.declared.calls.WrongForm.{WrongForm as WrongLine}
use Rattle.kinds.specs.declared.set_up.SetUp.{SetUp}
use Rattle.columns.specs.Field.{line_text}
use Rattle.kinds.specs.Names.{kind_letter}
use Rattle.sheet.specs.Line.{job_letter}
use Rattle.sheet.specs.Words.{wrong_form_text}
use Rattle.output.specs.declared.SheetRefusal.{SheetRefusal}
use Rattle.output.specs.declared.SheetRefusal.TheVariants.{WrongForm, TooLong}

-- the line of a set-up, with its number of stations
abbrev pub set_up_line : SetUp → ℕ → List ℕ
set_up_line x number = line_text (kind_letter x.kind) x.stations (decimal number)

-- the line of an order or of a slot, 'S'; a sheet asks for no look and no show
abbrev pub event_line : Event → List ℕ
event_line (Ordered station job answer) = line_text (job_letter job) station (decimal (order_number answer))
event_line (Slotted station answer) = line_text 83 station (decimal (slot_number answer))
event_line (Looked station answer) = []
event_line (Shown view) = []

abbrev pub sheet_refusal_number : SheetRefusal → ℕ
sheet_refusal_number (WrongForm place) = 8
sheet_refusal_number TooLong = 9

abbrev pub sheet_refusal_words : SheetRefusal → List ℕ
sheet_refusal_words (WrongForm place) = wrong_form_text place
sheet_refusal_words TooLong = codes "a sheet has at most 65000 bytes"

-- 'X' with the wrong column and its line; with 0 and 0 for a sheet that is too long
abbrev pub sheet_refusal_line : SheetRefusal → List ℕ
sheet_refusal_line (WrongForm place) = line_text 88 place.column (decimal place.line)
sheet_refusal_line TooLong = line_text 88 0 (decimal 0)

-- 'P', 'D' and 'W': the setpoint, the depth and the signer
abbrev pub board_lines : View → List ℕ
board_lines v = line_text 80 0 (signed_decimal v.setpoint) ++ (line_text 68 0 (signed_decimal v.depth) ++ line_text 87 0 (signed_decimal v.signer))

-- the board at the end of the text, or where its first line of wrong form is
abbrev pub end_lines : Option WrongLine → View → List ℕ
end_lines None v = board_lines v
end_lines (Some place) v = sheet_refusal_line (WrongForm place)
