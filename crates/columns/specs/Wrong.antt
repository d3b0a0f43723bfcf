-- The wrong column of a line, in words.
use Rattle.std.specs.Prelude.{ℕ, List, ◌++◌, decimal, codes}
use Rattle.columns.specs.declared.wrong.WrongColumn.{WrongColumn}

abbrev pub wrong_column_text : WrongColumn → List ℕ
wrong_column_text wrong = codes "wrong form at column " ++ decimal wrong.0
