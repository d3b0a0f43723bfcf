-- A number is written from its last column to its first.
use Rattle.std.proofs.Common.{◌≡◌, ℕ, zero, suc, ◌-◌, ◌^◌, ◌<◌, ◌≤◌, ◌⊎◌, List, [], ◌∷◌, ◌++◌, length, drop, set, ℤ, pos, negsuc, sym, refl, ap, ◌∙◌, ⊎_elim, append_assoc, add-one, arith}
use Rattle.std.specs.Fmt.{signed_decimal}
use Rattle.std.proofs.lemmas.List.{drop_all, drop-set}
use Rattle.std.proofs.lemmas.Bool.Decides.{nat_tests}
use Rattle.std.proofs.lemmas.Fmt.{decimal_digit, decimal_step}
use Rattle.columns.specs.declared.field.Content.{Content}
use Rattle.columns.specs.declared.field.Content.TheVariants.{Blank, Number}
use Rattle.columns.specs.Field.{justified, shown, size_of, content_before, content_signed, written, line_text}
use Rattle.columns.proofs.Justified.{push_justified, push_blank}

abbrev Before : Content → Type 0
Before s = (size_of (content_before s).0 ≤ size_of s) × ((shown s ≡ shown (content_before s).0 ++ ((content_before s).1 ∷ [])) ⊎ ((s ≡ Blank) × (content_before s ≡ (Blank, 32))))

before : (s : Content) → size_of s < 2 ^ 64 → Before s
before s h = grind (arith, nat_tests, decimal_digit, decimal_step)

none_written : (ds : List ℕ) → justified 0 ds ≡ []
none_written ds = let e : 0 - length ds ≡ 0 = omega arith in rw e (drop_all (length ds - 0) ds (omega arith))

written_is : (w : ℕ) (s : Content) → size_of s < 2 ^ 64 → written w s ≡ justified w (shown s)
written_is zero s h = sym (none_written (shown s))
written_is (suc w) s h =
    let b = before s h in
    ⊎_elim
    (λ (e : shown s ≡ shown (content_before s).0 ++ ((content_before s).1 ∷ [])).
    ap (λ u. u ++ ((content_before s).1 ∷ [])) (written_is w (content_before s).0 (omega arith)) ∙ push_justified w (shown (content_before s).0) (content_before s).1 ∙ ap (justified (suc w)) (sym e))
    (λ (e : (s ≡ Blank) × (content_before s ≡ (Blank, 32))). rw e.0 (ap (λ u. u ++ (32 ∷ [])) (written_is w Blank (omega arith)) ∙ push_blank w))
    b.1

-- one column more, from the last one on
pub column_written : (whole cs : List ℕ) (s : Content) (i : ℕ) → 0 < i → i ≤ length cs → whole ≡ written i s ++ drop i cs →
    whole ≡ written (i - 1) (content_before s).0 ++ drop (i - 1) (set cs (i - 1) (content_before s).1)
column_written whole cs s zero o h e = absurd (omega arith)
column_written whole cs s (suc i) o h e =
    let front = (content_before s).0 in
    let column = (content_before s).1 in
    let before : suc i - 1 ≡ i = omega arith in
    rw (before, drop-set cs i column, add-one) (e ∙ append_assoc (written i front) (column ∷ []) (drop (suc i) cs))

pub all_written : (whole cs : List ℕ) (s : Content) (i : ℕ) → i ≤ 0 → whole ≡ written i s ++ drop i cs → cs ≡ whole
all_written whole cs s zero o e = sym e
all_written whole cs s (suc i) o e = absurd (omega arith)

pub shown-signed : (z : ℤ) → signed_decimal z ≡ shown (content_signed z)
shown-signed (pos n) = refl
shown-signed (negsuc n) = refl

pub line_written : (letter station : ℕ) (v : Content) → station < 2 ^ 64 → size_of v < 2 ^ 64 →
    letter ∷ (written 3 (Number station) ++ (written 8 v ++ (10 ∷ []))) ≡ line_text letter station (shown v)
line_written letter station v h g =
    ap (λ u. letter ∷ (u ++ (written 8 v ++ (10 ∷ [])))) (written_is 3 (Number station) h) ∙
    ap (λ u. letter ∷ (justified 3 (shown (Number station)) ++ (u ++ (10 ∷ [])))) (written_is 8 v g)
