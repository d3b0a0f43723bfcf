-- The calls of a sheet, line after line, up to the end of its text or to a line of wrong form.
use Rattle.std.specs.Prelude.{◌≡◌, ℕ, ◌+◌, ◌≤◌, List, [], ◌++◌, length, Some, None, Option}
use Rattle.std.specs.List.{flat_map, All}
use Rattle.sheet.specs.declared.calls.WrongForm.{WrongForm}
use Rattle.sheet.specs.declared.line.Call.{Call}
use Rattle.sheet.specs.Line.{call_text, FitsCall, LegalLater, Wrong}

-- how the reading ends at the line `at`, of which the text `rest` is left: at the end of the text, or at a line of wrong form
abbrev pub Ends : ℕ → List ℕ → Option WrongForm → Type 0
Ends at rest None = rest ≡ []
Ends at rest (Some wrong) = (wrong.line ≡ at) × ((1 ≤ length rest) × Wrong LegalLater rest wrong.column)

-- the text from the line `first` on is the texts of the calls, one after the other, and a rest at which the reading ends
pub record Later (first : ℕ) (text : List ℕ) (calls : List Call) (wrong : Option WrongForm) : Type 0 where
  pub rest : List ℕ
  pub fits : All FitsCall calls
  pub split : text ≡ flat_map call_text calls ++ rest
  pub ends : Ends (first + length calls) rest wrong

-- a text is read in one way
abbrev pub OneReading : Type 0
OneReading = (first : ℕ) (text : List ℕ) (xs ys : List Call) (s t : Option WrongForm) → Later first text xs s → Later first text ys t → (xs ≡ ys) × (s ≡ t)
