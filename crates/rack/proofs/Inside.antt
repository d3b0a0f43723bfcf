-- The highest station inside, found by asking the numbers from n down.
use Rattle.std.proofs.Common.{◌≡◌, ℕ, zero, suc, ◌-◌, ◌<◌, true, false, List, Some, None, Option, MatchOption, refl, sym, ap, ◌∙◌, arith}
use Rattle.std.proofs.lemmas.Bool.{cond-true, cond-false}
use Rattle.lock.specs.declared.stage.Stage.{Stage}
use Rattle.lock.specs.Stages.{is_inside}
use Rattle.rack.specs.Calls.{inside_among}

-- none of the first k numbers that are asked is that of a station inside
abbrev pub NoneBefore : List Stage → ℕ → ℕ → Type 0
NoneBefore s n k = (j : ℕ) → j < k → is_inside s (n - j) ≡ false

abbrev pub FoundAt : List Stage → ℕ → ℕ → Type 0
FoundAt s n x = (k : ℕ) × (k < n) × (x ≡ n - k) × (is_inside s x ≡ true) × NoneBefore s n k

first : (s : List Stage) (n k : ℕ) → 0 < k → NoneBefore s (suc n) k → is_inside s (suc n) ≡ false
first s n k some h =
    let same : suc n ≡ suc n - 0 = omega arith in
    ap (is_inside s) same ∙ h 0 some

later : (s : List Stage) (n k : ℕ) → NoneBefore s (suc n) (suc k) → NoneBefore s n k
later s n k h j less =
    let same : suc n - suc j ≡ n - j = omega arith in
    ap (is_inside s) (sym same) ∙ h (suc j) (omega arith)

highest : (s : List Stage) (n : ℕ) (r : Option ℕ) → MatchOption r (NoneBefore s n n) (FoundAt s n) → r ≡ inside_among s n
highest s zero None h = refl
highest s zero (Some x) (k, less, at, here, none) = absurd (omega arith)
highest s (suc n) None h =
    highest s n None (later s n n h) ∙ sym (cond-false (is_inside s (suc n)) _ _ (first s n (suc n) (omega arith) h))
highest s (suc n) (Some x) (zero, less, at, here, none) =
    let same : x ≡ suc n = omega arith in
    ap Some same ∙ sym (cond-true (is_inside s (suc n)) _ _ (ap (is_inside s) (sym same) ∙ here))
highest s (suc n) (Some x) (suc k, less, at, here, none) =
    highest s n (Some x) (k, omega arith, omega arith, here, later s n k none) ∙
    sym (cond-false (is_inside s (suc n)) _ _ (first s n (suc k) (omega arith) none))

pub highest_by_cases : {P : Type 0} {Q : ℕ → Type 0} (s : List Stage) (n : ℕ) (r : Option ℕ) → MatchOption r P Q →
    (P → NoneBefore s n n) → ((x : ℕ) → Q x → FoundAt s n x) → r ≡ inside_among s n
highest_by_cases s n None h none some = highest s n None (none h)
highest_by_cases s n (Some x) h none some = highest s n (Some x) (some x h)
