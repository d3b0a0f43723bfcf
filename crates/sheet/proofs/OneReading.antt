-- A text is read in one way: a rest that begins with no legal line ends the reading, and a line's wrong column is one number.
use Rattle.std.proofs.Common.{◌≡◌, ℕ, ◌+◌, ◌<◌, List, [], ◌∷◌, ◌++◌, length, Some, None, Option, sym, refl, ap, ◌∙◌, subst, inl, inr, append_assoc, arith, length-append}
use Rattle.std.proofs.lemmas.List.{take-append-le}
use Rattle.std.specs.List.{flat_map, All}
use Rattle.std.proofs.lemmas.Bool.{cases_lt}
use Rattle.std.proofs.lemmas.List.Elements.{All-head, All-tail}
use Rattle.sheet.specs.declared.calls.WrongForm.{WrongForm}
use Rattle.sheet.specs.declared.line.Call.{Call}
use Rattle.sheet.specs.Line.{call_text, FitsCall, LegalLater, Wrong}
use Rattle.sheet.specs.Sheet.{Ends, OneReading}
use Rattle.sheet.proofs.Lines.{one}
use Rattle.sheet.proofs.CallLines.{calls}
use Rattle.sheet.proofs.LineLengths.{call_length}
use Rattle.columns.proofs.Words.{same_first, same_second}

module _ (Legal : List ℕ → Type 0) where
  not_before : (text : List ℕ) (c d : ℕ) → Wrong Legal text c → Wrong Legal text d → c < d → ⊥
  not_before text c d v w h = let s = w.some c h in v.none s.0 s.1.0 s.1.1

  pub one_column : (text : List ℕ) (c d : ℕ) → Wrong Legal text c → Wrong Legal text d → c ≡ d
  one_column text c d v w =
      elim (cases_lt c d) [
        | inl h ↦ absurd (not_before text c d v w h)
        | inr h ↦ elim (cases_lt d c) [ inl g ↦ absurd (not_before text d c w v g) | inr g ↦ omega arith ]
      ]

  pub legal_not_wrong : (line rest : List ℕ) → length line ≡ 13 → Legal line → (c : ℕ) → Wrong Legal (line ++ rest) c → ⊥
  legal_not_wrong line rest n a c w = let m = w.most in w.none line a (sym (take-append-le c line rest (omega arith)))

-- a rest that begins with no call
abbrev Stuck : List ℕ → Type 0
Stuck rest = (x : Call) (more : List ℕ) → FitsCall x → rest ≡ call_text x ++ more → ⊥

stuck : (at : ℕ) (rest : List ℕ) (s : Option WrongForm) → Ends at rest s → Stuck rest
stuck at rest None h x more f e =
    let n = call_length x in
    let m : length (call_text x ++ more) ≡ 0 = ap length (sym e ∙ h) in
    let a = length-append (call_text x) more in
    omega arith
stuck at rest (Some wrong) h x more f e =
    legal_not_wrong LegalLater (call_text x) more (call_length x) (x, (f, refl)) wrong.column (subst (λ r. Wrong LegalLater r wrong.column) e h.1.1)

abbrev after : List Call → List ℕ → List ℕ
after xs rest = flat_map call_text xs ++ rest

same-calls : (xs ys : List Call) (r q : List ℕ) → All FitsCall xs → All FitsCall ys → Stuck r → Stuck q → after xs r ≡ after ys q → (xs ≡ ys) × (r ≡ q)
same-calls [] [] r q f g s t e = (refl, e)
same-calls [] (y ∷ ys) r q f g s t e = absurd (s y (after ys q) (All-head FitsCall y ys g) (e ∙ append_assoc (call_text y) (flat_map call_text ys) q))
same-calls (x ∷ xs) [] r q f g s t e = absurd (t x (after xs r) (All-head FitsCall x xs f) (sym e ∙ append_assoc (call_text x) (flat_map call_text xs) r))
same-calls (x ∷ xs) (y ∷ ys) r q f g s t e =
    let h : call_text x ++ after xs r ≡ call_text y ++ after ys q = sym (append_assoc (call_text x) (flat_map call_text xs) r) ∙ e ∙ append_assoc (call_text y) (flat_map call_text ys) q in
    let a : x ≡ y = one Call call_text FitsCall calls x y (All-head FitsCall x xs f) (All-head FitsCall y ys g) (same_first 13 (call_text x) (call_text y) (after xs r) (after ys q) (call_length x) (call_length y) h) in
    let b = same-calls xs ys r q (All-tail FitsCall x xs f) (All-tail FitsCall y ys g) s t (same_second 13 (call_text x) (call_text y) (after xs r) (after ys q) (call_length x) (call_length y) h) in
    let c = b.0 in
    (cc, b.1)

same_end : (at : ℕ) (rest : List ℕ) (s t : Option WrongForm) → Ends at rest s → Ends at rest t → s ≡ t
same_end at rest None None p q = refl
same_end at rest None (Some w) p q = let n : length rest ≡ 0 = ap length p in let m = q.1.0 in absurd (omega arith)
same_end at rest (Some w) None p q = let n : length rest ≡ 0 = ap length q in let m = p.1.0 in absurd (omega arith)
same_end at rest (Some v) (Some w) p q =
    ap (λ line. Some (record { line = line; column = v.column })) (p.0 ∙ sym q.0) ∙
    ap (λ column. Some (record { line = w.line; column = column })) (one_column LegalLater rest v.column w.column p.1.1 q.1.1)

pub one_reading : OneReading
one_reading first text xs ys s t p q =
    let (same, rests) = same-calls xs ys p.rest q.rest p.fits q.fits (stuck _ p.rest s p.ends) (stuck _ q.rest t q.ends) (sym p.split ∙ q.split) in
    let ends : Ends (first + length xs) p.rest t = rw (rests, same) q.ends in
    (same, same_end (first + length xs) p.rest s t p.ends ends)
