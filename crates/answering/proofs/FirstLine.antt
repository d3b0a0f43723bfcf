-- A sheet whose first line is read begins with its set-up, which has the first 13 bytes.
use Rattle.std.proofs.Common.{ℕ, ◌≤◌, List, ◌++◌, length, drop, Ok, sym, ap, ◌∙◌}
use Rattle.std.proofs.lemmas.List.{take-append-drop}
use Rattle.kinds.specs.declared.set_up.SetUp.{SetUp}
use Rattle.sheet.specs.Line.{set_up_text, SetUpRead}
use Rattle.sheet.proofs.LineLengths.{set_up-length, has_line}
use Rattle.answering.specs.Answer.{Begins}

module _ (text : List ℕ) (x : SetUp) (h : SetUpRead text (Ok x)) where
  pub first_line : 13 ≤ length text
  first_line = has_line text (set_up_text x) (set_up-length x) h.1

  pub begins : Begins text x (drop 13 text)
  begins = record { fits = h.0; split = sym (take-append-drop 13 text) ∙ ap (λ z. z ++ drop 13 text) h.1 }
