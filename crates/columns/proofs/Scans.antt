-- The loop over the columns of a field goes as `scan` does.
use Rattle.std.proofs.Common.{◌≡◌, ℕ, suc, ◌+◌, ◌-◌, ◌*◌, ◌^◌, ◌<◌, ◌≤◌, Bool, eqb, List, [], ◌∷◌, length, get_or, drop, Some, None, Ok, Err, Option, Result, pow-suc, add-one, arith, lit<, length-drop, drop_of_length-le, drop-cons}
use Rattle.std.proofs.Math.Nat.{pow-le-pow_right}
use Rattle.std.proofs.lemmas.Bool.Decides.{nat_tests}
use Rattle.columns.specs.declared.field.Form.{Form}
use Rattle.columns.specs.declared.field.Content.{Content}
use Rattle.columns.specs.declared.wrong.WrongColumn.{WrongColumn}
use Rattle.columns.specs.Field.{content_after, size_of}

abbrev pub followed : {A : Type 0} → Option Content → (Content → A) → A → A
followed (Some t) go stop = go t
followed None go stop = stop

-- the field from a column on: the content at its end, or the first column at which no field goes on
abbrev pub scan : Form → ℕ → Content → List ℕ → Result Content WrongColumn
scan f at s [] = Ok s
scan f at s (b ∷ bs) = followed (content_after f (eqb (length bs) 0) s b) (λ t. scan f (at + 1) t bs) (Err (record { 0 = at }))

last_is : (n i : ℕ) → i < n → eqb (n - suc i) 0 ≡ eqb (i + 1) n
last_is n i h = grind (arith, nat_tests)

module _ (f : Form) (at : ℕ) (s : Content) (xs : List ℕ) (i : ℕ) (h : i < length xs) where
  last_at : eqb (length (drop (suc i) xs)) 0 ≡ eqb (i + 1) (length xs)
  last_at = rw length-drop (last_is (length xs) i h)

  pub scan_more : (t : Content) → Some t ≡ content_after f (eqb (i + 1) (length xs)) s (get_or xs i 0) → scan f at s (drop i xs) ≡ scan f (at + 1) t (drop (i + 1) xs)
  scan_more t e = rw (drop-cons xs i 0, last_at, ← e, add-one i)

  pub scan_stop : None ≡ content_after f (eqb (i + 1) (length xs)) s (get_or xs i 0) → scan f at s (drop i xs) ≡ Err (record { 0 = at })
  scan_stop e = rw (drop-cons xs i 0, last_at, ← e)

pub scan_end : (f : Form) (at : ℕ) (s : Content) (xs : List ℕ) (i : ℕ) → length xs ≤ i → scan f at s (drop i xs) ≡ Ok s
scan_end f at s xs i h = rw (drop_of_length-le xs h)

ten_times : (f : Form) (last : Bool) (s t : Content) (b p : ℕ) → 1 ≤ p → size_of s < p → Some t ≡ content_after f last s b → size_of t < p * 10
ten_times f last s t b p o h e = grind (arith, nat_tests)

pub under_top : (n i : ℕ) → n < 10 ^ i → i ≤ 8 → n < 10 ^ 8
under_top n i h g = let p : 10 ^ i ≤ 10 ^ 8 = pow-le-pow_right (lit< tt) g in omega arith

pub size_more : (f : Form) (last : Bool) (s t : Content) (b i : ℕ) → size_of s < 10 ^ i → Some t ≡ content_after f last s b → size_of t < 10 ^ (i + 1)
size_more f last s t b i h e = rw (add-one, pow-suc) (ten_times f last s t b (10 ^ i) (omega arith) h e)
