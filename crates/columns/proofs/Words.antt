-- Two words, one after the other.
use Rattle.std.proofs.Common.{◌≡◌, ℕ, suc, ◌+◌, ◌<◌, ◌≤◌, List, ◌++◌, length, take, drop, sym, refl, ap, ◌∙◌, add-suc, arith, take_at, drop_at}
use Rattle.std.proofs.lemmas.List.{take-append-le}
use Rattle.std.proofs.Math.Seq.{take-append-add}
use Rattle.columns.specs.Stops.{Stops}

-- where the first words are as long as each other, equal texts have equal parts
module _ (w : ℕ) (a b l m : List ℕ) (p : length a ≡ w) (q : length b ≡ w) (e : a ++ l ≡ b ++ m) where
  pub same_first : a ≡ b
  same_first = sym (take_at a l w p) ∙ ap (take w) e ∙ take_at b m w q

  pub same_second : l ≡ m
  same_second = sym (drop_at a l w p) ∙ ap (drop w) e ∙ drop_at b m w q

-- a word of the one language, then one of the other
abbrev pub Joined : (List ℕ → Type 0) → (List ℕ → Type 0) → List ℕ → Type 0
Joined L M l = (u : List ℕ) × ((v : List ℕ) × (L u × (M v × (l ≡ u ++ v))))

module _ (L M : List ℕ → Type 0) (w : ℕ) (sized : (u : List ℕ) → L u → length u ≡ w) (bs cs : List ℕ) (d : ℕ) where
  front : (u v : List ℕ) (k : ℕ) → L u → k ≤ w → take k (u ++ v) ≡ take k u
  front u v k p h = let n = sized u p in take-append-le k u v (omega arith)

  pub stops_first : length bs ≡ w → d < w → (v : List ℕ) → M v → Stops L bs d → Stops (Joined L M) (bs ++ cs) d
  stops_first n h v q st =
      let g = st.goes in
      let text : (k : ℕ) → k ≤ w → take k (bs ++ cs) ≡ take k bs = λ k i. take-append-le k bs cs (omega arith) in
      record {
        goes = (g.0 ++ v, ((g.0, (v, (g.1.0, (q, refl)))), front g.0 v d g.1.0 (omega arith) ∙ g.1.1 ∙ sym (text d (omega arith))));
        ends = λ l a e. st.ends a.0 a.1.1.0 (sym (front a.0 a.1.0 (suc d) a.1.1.0 h) ∙ ap (take (suc d)) (sym a.1.1.1.1) ∙ e ∙ text (suc d) h);
      }

  after_front : (u v : List ℕ) (k : ℕ) → length u ≡ w → take (w + k) (u ++ v) ≡ u ++ take k v
  after_front u v k n = rw (← n) (take-append-add u v k)

  pub stops_second : L bs → Stops M cs d → Stops (Joined L M) (bs ++ cs) (w + d)
  stops_second p st =
      let n = sized bs p in
      let g = st.goes in
      record {
        goes = (bs ++ g.0, ((bs, (g.0, (p, (g.1.0, refl)))), after_front bs g.0 d n ∙ ap (λ x. bs ++ x) g.1.1 ∙ sym (after_front bs cs d n)));
        ends = λ l a e.
            let m = sized a.0 a.1.1.0 in
            let e' : take (w + suc d) l ≡ take (w + suc d) (bs ++ cs) = rw (add-suc w d) e in
            let both : a.0 ++ take (suc d) a.1.0 ≡ bs ++ take (suc d) cs = sym (after_front a.0 a.1.0 (suc d) m) ∙ ap (take (w + suc d)) (sym a.1.1.1.1) ∙ e' ∙ after_front bs cs (suc d) n in
            st.ends a.1.0 a.1.1.1.0 (same_second w a.0 bs (take (suc d) a.1.0) (take (suc d) cs) m n both);
      }
