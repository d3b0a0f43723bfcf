-- What is right-justified in w columns has w bytes, and one byte more at its end gives w + 1.
use Rattle.std.proofs.Common.{◌≡◌, ℕ, zero, suc, ◌+◌, ◌-◌, ◌*◌, ◌^◌, ◌≤◌, List, [], ◌∷◌, ◌++◌, length, drop, replicate, decimal, ap, ◌∙◌, append_assoc, append-nil, pow-suc, add-one, arith, lit<, length-append, length-drop}
use Rattle.std.proofs.Math.Nat.{pow-le-pow_right}
use Rattle.std.proofs.lemmas.List.{length-replicate}
use Rattle.std.proofs.lemmas.List.{replicate_more, drop-append-le}
use Rattle.std.proofs.lemmas.Fmt.{length-decimal-le}
use Rattle.columns.specs.declared.field.Form.{Form}
use Rattle.columns.specs.declared.field.Content.{Content}
use Rattle.columns.specs.declared.field.Content.TheVariants.{Blank, Minus, Number, Negative}
use Rattle.columns.specs.Field.{justified, shown, Fits}

pub justified-length : (w : ℕ) (ds : List ℕ) → length (justified w ds) ≡ w
justified-length w ds = simp (length-append, length-replicate, length-drop) (omega arith)

pub justified-whole : (w : ℕ) (ds : List ℕ) → length ds ≤ w → justified w ds ≡ replicate (w - length ds) 32 ++ ds
justified-whole w ds h = let e : length ds - w ≡ 0 = omega arith in rw e

pub push_justified : (w : ℕ) (ds : List ℕ) (b : ℕ) → justified w ds ++ (b ∷ []) ≡ justified (suc w) (ds ++ (b ∷ []))
push_justified w ds b =
    let e : suc w - (length ds + 1) ≡ w - length ds = omega arith in
    let f : length ds + 1 - suc w ≡ length ds - w = omega arith in
    rw (length-append ds (b ∷ []), e, f, drop-append-le (length ds - w) ds (b ∷ []) (omega arith))
    (append_assoc (replicate (w - length ds) 32) (drop (length ds - w) ds) (b ∷ []))

blank_justified : (w : ℕ) → justified w [] ≡ replicate w 32
blank_justified w =
    let e : w - 0 ≡ w = omega arith in
    let f : 0 - w ≡ 0 = omega arith in
    rw (e, f) (append-nil (replicate w 32))

pub push_blank : (w : ℕ) → justified w [] ++ (32 ∷ []) ≡ justified (suc w) []
push_blank w = rw (blank_justified w, blank_justified (suc w)) (replicate_more w 32 ∙ ap (λ m. replicate m 32) (add-one w))

-- what fits a field is no longer than the field
pub shown-length : (f : Form) (w : ℕ) (v : Content) → 1 ≤ w → w ≤ 8 → Fits f w v → length (shown v) ≤ w
shown-length f w Blank o h g = absurd g
shown-length f w Minus o h g = absurd g
shown-length f w (Number n) o h g =
    let p : 10 ^ w ≤ 10 ^ 8 = pow-le-pow_right (lit< tt) h in
    length-decimal-le w n o g.0 (omega arith)
shown-length f zero (Negative n) o h g = absurd (omega arith)
shown-length f (suc zero) (Negative n) o h g = absurd (omega arith)
shown-length f (suc (suc w)) (Negative n) o h g =
    let p : 10 ^ suc (suc w) ≤ 10 ^ 8 = pow-le-pow_right (lit< tt) h in
    let q : 10 ^ suc (suc w) ≡ 10 ^ suc w * 10 = pow-suc 10 (suc w) in
    let r : length (decimal n) ≤ suc w = length-decimal-le (suc w) n (omega arith) (omega arith) (omega arith) in
    omega arith
