-- Missing bytes count as 0, which no line has: a text that ends too early stops where its zeros begin.
use Rattle.std.proofs.Common.{◌≡◌, ℕ, zero, suc, ◌+◌, ◌<◌, ◌≤◌, List, [], ◌∷◌, length, get_or, take, sym, refl, ap, ◌∙◌, arith, take_all}
use Rattle.std.specs.List.{All}
use Rattle.std.proofs.lemmas.List.Elements.{All-head, All-tail}
use Rattle.columns.specs.Stops.{Stops}

-- w bytes of a text from the index i on
abbrev pub columns : ℕ → ℕ → List ℕ → List ℕ
columns zero i t = []
columns (suc w) i t = get_or t i 0 ∷ columns w (suc i) t

shifted : (w i x : ℕ) (t : List ℕ) → columns w (suc i) (x ∷ t) ≡ columns w i t
shifted zero i x t = refl
shifted (suc w) i x t = ap (λ u. get_or t i 0 ∷ u) (shifted w (suc i) x t)

pub same-columns : (r t : List ℕ) (n : ℕ) → ((k : ℕ) → k < n → get_or r k 0 ≡ get_or t k 0) → (w i : ℕ) → i + w ≤ n → columns w i r ≡ columns w i t
same-columns r t n e zero i h = refl
same-columns r t n e (suc w) i h = rw (e i (omega arith), same-columns r t n e w (suc i) (omega arith))

abbrev pub Positive : ℕ → Type 0
Positive b = 1 ≤ b

-- no byte is 0
abbrev pub Nonzero : List ℕ → Type 0
Nonzero = All Positive

unfilled : (k w : ℕ) (l text : List ℕ) → length l ≡ w → Nonzero l → k ≤ w → take k l ≡ take k (columns w 0 text) → take k l ≡ take k text
unfilled zero w l text n z h e = refl
unfilled (suc k) w [] text n z h e = absurd (omega arith)
unfilled (suc k) zero (x ∷ l) text n z h e = absurd (omega arith)
unfilled (suc k) (suc w) (x ∷ l) [] n z h e = let p : x ≡ 0 = cc in let some : 1 ≤ x = All-head Positive x l z in absurd (omega arith)
unfilled (suc k) (suc w) (x ∷ l) (y ∷ text) n z h e =
    let p : x ≡ y = cc in
    let q : take k l ≡ take k (columns w 1 (y ∷ text)) = cc in
    let rest = unfilled k w l text (omega arith) (All-tail Positive x l z) (omega arith) (rw (shifted w 0 y text) at q) in
    cc

filled : (k w : ℕ) (l text : List ℕ) → length l ≡ w → k ≤ w → take k l ≡ take k text → take k l ≡ take k (columns w 0 text)
filled zero w l text n h e = refl
filled (suc k) w [] text n h e = absurd (omega arith)
filled (suc k) zero (x ∷ l) text n h e = absurd (omega arith)
filled (suc k) (suc w) (x ∷ l) [] n h e = let z : ◌≡◌ {A = ℕ} 0 1 = cc in absurd (omega arith)
filled (suc k) (suc w) (x ∷ l) (y ∷ text) n h e =
    let p : x ≡ y = cc in
    let q : take k l ≡ take k text = cc in
    let rest = filled k w l text (omega arith) (omega arith) q in
    rw (p, shifted w 0 y text) (ap (λ u. y ∷ u) rest)

module _ (L : List ℕ → Type 0) (w : ℕ) (sized : (l : List ℕ) → L l → length l ≡ w) (some : (l : List ℕ) → L l → Nonzero l) (text : List ℕ) where
  pub stops_filled : (d : ℕ) → d < w → Stops L (columns w 0 text) d → Stops L text d
  stops_filled d h st = let g = st.goes in
      record {
        goes = (g.0, (g.1.0, unfilled d w g.0 text (sized g.0 g.1.0) (some g.0 g.1.0) (omega arith) g.1.1));
        ends = λ l a e. st.ends l a (filled (suc d) w l text (sized l a) h e);
      }

  pub whole_filled : L (columns w 0 text) → take w text ≡ columns w 0 text
  whole_filled a =
      let l = columns w 0 text in
      let n = sized l a in
      sym (unfilled w w l text n (some l a) (omega arith) refl) ∙ take_all w l (omega arith)
