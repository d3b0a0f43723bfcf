-- One column more: the content is still written right-justified in the columns so far.
use Rattle.std.proofs.Common.{◌≡◌, ℕ, suc, ◌+◌, ◌-◌, ◌*◌, ◌/◌, ◌%◌, ◌^◌, ◌<◌, ◌≤◌, eqb, ◌⊎◌, [], ◌∷◌, ◌++◌, Some, decimal, ap, ◌∙◌, ⊎_elim, arith}
use Rattle.std.proofs.lemmas.Bool.Decides.{nat_tests}
use Rattle.std.proofs.lemmas.Fmt.{decimal_digit, decimal_step}
use Rattle.columns.specs.declared.field.Form.{Form}
use Rattle.columns.specs.declared.field.Form.TheVariants.{Signed, Zero}
use Rattle.columns.specs.declared.field.Content.{Content}
use Rattle.columns.specs.declared.field.Content.TheVariants.{Blank, Minus, Number, Negative}
use Rattle.columns.specs.Field.{justified, shown, content_after, Fits}
use Rattle.columns.proofs.Justified.{push_justified, push_blank}

-- the contents that may stand with j columns to come; p is 10 to the number of columns so far
abbrev pub Valid : Form → ℕ → ℕ → Content → Type 0
Valid f p j Blank = 0 < j
Valid f p j Minus = (f ≡ Signed) × (0 < j) × (10 ≤ p)
Valid f p j (Number n) = (n < p) × (0 < j → 1 ≤ n) × (f ≡ Zero → n ≡ 0)
Valid f p j (Negative n) = (f ≡ Signed) × (1 ≤ n) × ((n + 1) * 10 ≤ p)

pub valid_end : (f : Form) (w : ℕ) (s : Content) → Valid f (10 ^ w) 0 s → Fits f w s
valid_end f w s v = grind arith

pub valid_more : (f : Form) (p j : ℕ) (s : Content) (b : ℕ) (t : Content) → 1 ≤ p → Valid f p (suc j) s → content_after f (eqb j 0) s b ≡ Some t → Valid f (p * 10) j t
valid_more f p j s b t o v e = grind (arith, nat_tests)

one_digit : (b : ℕ) → 48 ≤ b → b ≤ 57 → b ∷ [] ≡ decimal (b - 48)
one_digit b h g = let e : 48 + (b - 48) ≡ b = omega arith in let d : b - 48 < 10 = omega arith in rw (decimal_digit (b - 48) d, e)

more_digits : (n b : ℕ) → 1 ≤ n → n < 10 ^ 8 → 48 ≤ b → b ≤ 57 → decimal n ++ (b ∷ []) ≡ decimal (n * 10 + (b - 48))
more_digits n b o h g k =
    let front : (n * 10 + (b - 48)) / 10 ≡ n = omega arith in
    let back : 48 + (n * 10 + (b - 48)) % 10 ≡ b = omega arith in
    rw (decimal_step (n * 10 + (b - 48)) (omega arith) (omega arith), front, back)

shown_more : (f : Form) (p j : ℕ) (s : Content) (b : ℕ) (t : Content) → p ≤ 10 ^ 8 → Valid f p (suc j) s → content_after f (eqb j 0) s b ≡ Some t → (shown s ++ (b ∷ []) ≡ shown t) ⊎ ((s ≡ Blank) × (t ≡ Blank) × (b ≡ 32))
shown_more f p j Blank b t h v e = grind (arith, nat_tests, one_digit)
shown_more f p j Minus b t h v e = grind (arith, nat_tests, one_digit)
shown_more f p j (Number n) b t h v e = grind (arith, nat_tests, more_digits)
shown_more f p j (Negative n) b t h v e = grind (arith, nat_tests, more_digits)

pub grown : (f : Form) (k j : ℕ) (s : Content) (b : ℕ) (t : Content) → 10 ^ k ≤ 10 ^ 8 → Valid f (10 ^ k) (suc j) s → content_after f (eqb j 0) s b ≡ Some t → justified k (shown s) ++ (b ∷ []) ≡ justified (suc k) (shown t)
grown f k j s b t h v e =
    ⊎_elim (λ g. push_justified k (shown s) b ∙ ap (justified (suc k)) g)
    (λ (g : (s ≡ Blank) × (t ≡ Blank) × (b ≡ 32)). rw (g.0, g.1, g.2) (push_blank k))
    (shown_more f (10 ^ k) j s b t h v e)
