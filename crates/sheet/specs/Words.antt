-- A line of wrong form, in words.
use Rattle.std.specs.Prelude.{ℕ, List, ◌++◌, decimal, codes}
use Rattle.columns.specs.Wrong.{wrong_column_text}
use Rattle.sheet.specs.declared.calls.WrongForm.{WrongForm}

abbrev pub wrong_form_text : WrongForm → List ℕ
wrong_form_text wrong = codes "line " ++ decimal wrong.line ++ codes ": " ++ wrong_column_text (record { 0 = wrong.column })
