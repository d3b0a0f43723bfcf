-- A sheet has one output: its first line is legal or wrong at one column, and the text after it is read in one way.
use Rattle.std.proofs.Common.{◌≡◌, ℕ, List, ◌++◌, map, Some, None, Option, sym, refl, ap, ◌∙◌, subst, arith}
use Rattle.answers.specs.Numbers.{refusal_number}
use Rattle.answers.specs.declared.Refusal.{Refusal}
use Rattle.kinds.specs.declared.set_up.SetUp.{SetUp}
use Rattle.sheet.specs.Line.{set_up_text, FitsSetUp, LegalFirst, Wrong}
use Rattle.sheet.proofs.Lines.{one}
use Rattle.sheet.proofs.SetUpLines.{set_ups}
use Rattle.sheet.proofs.OneReading.{one_column, legal_not_wrong, one_reading}
use Rattle.sheet.proofs.LineLengths.{set_up-length}
use Rattle.columns.proofs.Words.{same_first, same_second}
use Rattle.output.specs.declared.SheetRefusal.TheVariants.{WrongForm}
use Rattle.sheet.specs.Calls.{to_call}
use Rattle.output.specs.Output.{set_up_line, sheet_refusal_line}
use Rattle.answering.specs.Answer.{run_lines, Run, refusal_of, Begins, too_long, wrong_first, refused, run, OneOutput}

same_run : (x : SetUp) (later out other : List ℕ) → Run x later out → Run x later other → out ≡ other
same_run x later out other p q =
    let (lines, wrong) = one_reading 2 later p.lines q.lines p.wrong q.wrong p.read q.read in
    p.written ∙ ap (λ xs. run_lines x (map to_call xs) p.wrong) lines ∙ ap (λ w. run_lines x (map to_call q.lines) w) wrong ∙ sym q.written

-- the output from the set-up's line on
abbrev Served : Option Refusal → SetUp → List ℕ → List ℕ → Type 0
Served (Some refusal) x later out = out ≡ set_up_line x (refusal_number refusal)
Served None x later out = Run x later out

same-served : (o : Option Refusal) (x : SetUp) (later out other : List ℕ) → Served o x later out → Served o x later other → out ≡ other
same-served (Some refusal) x later out other p q = p ∙ sym q
same-served None x later out other p q = same_run x later out other p q

module _ (text : List ℕ) where
  -- a text begins with one set-up
  module _ (x y : SetUp) (l k : List ℕ) (p : Begins text x l) (q : Begins text y k) where
    both : set_up_text x ++ l ≡ set_up_text y ++ k
    both = sym p.split ∙ q.split

    same-set_up : x ≡ y
    same-set_up = one SetUp set_up_text FitsSetUp set_ups x y p.fits q.fits (same_first 13 (set_up_text x) (set_up_text y) l k (set_up-length x) (set_up-length y) both)

    same_later : l ≡ k
    same_later = same_second 13 (set_up_text x) (set_up_text y) l k (set_up-length x) (set_up-length y) both

    same_output : (o u : Option Refusal) (out other : List ℕ) → refusal_of x ≡ o → refusal_of y ≡ u → Served o x l out → Served u y k other → out ≡ other
    same_output o u out other d e s t =
        let asked : o ≡ u = sym d ∙ ap refusal_of same-set_up ∙ e in
        same-served u y k out other (subst (λ z. Served z y k out) asked (subst (λ z. Served o z k out) same-set_up (subst (λ z. Served o x z out) same_later s))) t

  -- and is then not wrong
  not_both : (x : SetUp) (l : List ℕ) (c : ℕ) → Begins text x l → Wrong LegalFirst text c → ⊥
  not_both x l c p w = legal_not_wrong LegalFirst (set_up_text x) l (set_up-length x) (x, (p.fits, refl)) c (subst (λ t. Wrong LegalFirst t c) p.split w)

pub one_output : OneOutput
one_output text out other (too_long h e) (too_long g d) = e ∙ sym d
one_output text out other (too_long h e) (wrong_first g c w d) = absurd (omega arith)
one_output text out other (too_long h e) (refused g x l b f r s) = absurd (omega arith)
one_output text out other (too_long h e) (run g x l b r s) = absurd (omega arith)
one_output text out other (wrong_first h c w e) (too_long g d) = absurd (omega arith)
one_output text out other (wrong_first h c w e) (wrong_first g k v d) = e ∙ ap (λ z. sheet_refusal_line (WrongForm (record { line = 1; column = z }))) (one_column LegalFirst text c k w v) ∙ sym d
one_output text out other (wrong_first h c w e) (refused g x l b f r s) = absurd (not_both text x l c b w)
one_output text out other (wrong_first h c w e) (run g x l b r s) = absurd (not_both text x l c b w)
one_output text out other (refused h x l b f r s) (too_long g d) = absurd (omega arith)
one_output text out other (refused h x l b f r s) (wrong_first g c w d) = absurd (not_both text x l c b w)
one_output text out other (refused h x l b f r s) (refused g y k a i q t) = same_output text x y l k b a (Some f) (Some i) out other r q s t
one_output text out other (refused h x l b f r s) (run g y k a q t) = same_output text x y l k b a (Some f) None out other r q s t
one_output text out other (run h x l b r s) (too_long g d) = absurd (omega arith)
one_output text out other (run h x l b r s) (wrong_first g c w d) = absurd (not_both text x l c b w)
one_output text out other (run h x l b r s) (refused g y k a i q t) = same_output text x y l k b a None (Some i) out other r q s t
one_output text out other (run h x l b r s) (run g y k a q t) = same_output text x y l k b a None None out other r q s t
