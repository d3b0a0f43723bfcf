-- A sheet is refused as too long exactly if it has more than 65,000 bytes: the line of that refusal has the letter of no set-up, and the
-- line number of no wrong line.
use Rattle.std.proofs.Common.{◌≡◌, ℕ, List, [], ◌∷◌, ◌++◌, get_or, decimal, sym, ap, ◌∙◌, arith}
use Rattle.std.proofs.lemmas.Fmt.{decimal_digit}
use Rattle.kinds.specs.declared.LockKind.{LockKind}
use Rattle.kinds.specs.declared.LockKind.TheVariants.{Fast, OneBit}
use Rattle.kinds.specs.declared.set_up.SetUp.{SetUp}
use Rattle.columns.specs.Field.{justified}
use Rattle.kinds.specs.Names.{kind_letter}
use Rattle.columns.proofs.Justified.{justified-length}
use Rattle.columns.proofs.Words.{same_second}
use Rattle.output.specs.declared.SheetRefusal.TheVariants.{WrongForm, TooLong}
use Rattle.output.specs.Output.{sheet_refusal_line}
use Rattle.answering.specs.Answer.{too_long, wrong_first, refused, run}
use Rattle.setpoint_c.specs.Bound.{RefusedAbove}

-- no kind of lock has the letter 'X'
other_letter : (kind : LockKind) → kind_letter kind ≡ 88 → ⊥
other_letter Fast e = omega arith
other_letter OneBit e = omega arith

no_set_up : (x : SetUp) (rest : List ℕ) → kind_letter x.kind ∷ rest ≡ sheet_refusal_line TooLong → ⊥
no_set_up x rest e = other_letter x.kind (ap (λ l. get_or l 0 0) e)

-- a value and the line feed
abbrev value_text : List ℕ → List ℕ
value_text digits = justified 8 digits ++ (10 ∷ [])

-- the value of the refusal is 0, and that of a wrong first line 1
no_first : (column : ℕ) → sheet_refusal_line (WrongForm (record { line = 1; column = column })) ≡ sheet_refusal_line TooLong → ⊥
no_first column e =
    let fields : justified 3 (decimal column) ++ value_text (decimal 1) ≡ justified 3 (decimal 0) ++ value_text (decimal 0) = cc in
    let values = same_second 3 (justified 3 (decimal column)) (justified 3 (decimal 0)) (value_text (decimal 1)) (value_text (decimal 0)) (justified-length 3 (decimal column)) (justified-length 3 (decimal 0)) fields in
    let written : value_text (49 ∷ []) ≡ value_text (48 ∷ []) = sym (ap value_text (decimal_digit 1 (omega arith))) ∙ values ∙ ap value_text (decimal_digit 0 (omega arith)) in
    let digits : ◌≡◌ {A = ℕ} 49 48 = ap (λ l. get_or l 7 0) written in
    omega arith

pub refused_above : RefusedAbove
refused_above sheet output (too_long h e) = (λ _. e, λ _. h)
refused_above sheet output (wrong_first h column w e) = (λ g. absurd (omega arith), λ d. absurd (no_first column (sym e ∙ d)))
refused_above sheet output (refused h x later b f r e) = (λ g. absurd (omega arith), λ d. absurd (no_set_up x _ (sym e ∙ d)))
refused_above sheet output (run h x later b r s) = (λ g. absurd (omega arith), λ d. absurd (no_set_up x _ (sym s.written ∙ d)))
