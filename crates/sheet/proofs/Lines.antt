-- From the fields to the line, for set-ups and calls alike.
use Rattle.std.proofs.Common.{◌≡◌, ℕ, suc, ◌-◌, ◌<◌, ◌≤◌, min, true, List, [], ◌∷◌, ◌++◌, length, get_or, take, drop, Ok, Err, decimal, Result, sym, refl, ap, ◌∙◌, subst, ⊎_elim, arith, lit<, lit≤, length-take, drop-cons, take-take}
use Rattle.std.proofs.lemmas.List.{get_or_past, take_rest}
use Rattle.std.proofs.lemmas.Bool.{cases_lt}
use Rattle.columns.specs.declared.field.Form.{Form}
use Rattle.columns.specs.declared.field.Form.TheVariants.{Natural}
use Rattle.columns.specs.declared.field.Content.{Content}
use Rattle.columns.specs.declared.field.Content.TheVariants.{Blank, Number}
use Rattle.columns.specs.declared.wrong.WrongColumn.{WrongColumn}
use Rattle.columns.specs.Field.{justified, shown, Fits, fields_text, FieldsText, FieldsRead}
use Rattle.columns.specs.Stops.{Stops}
use Rattle.sheet.specs.Line.{Wrong}
use Rattle.columns.proofs.Accepts.{content_at_end, accepted}
use Rattle.columns.proofs.Justified.{justified-length}
use Rattle.columns.proofs.Words.{same_first, same_second}
use Rattle.columns.proofs.Fields.{station_fits, sized_fields}

same_content : (f : Form) (w : ℕ) (v u : Content) → 1 ≤ w → w ≤ 8 → Fits f w v → Fits f w u → justified w (shown v) ≡ justified w (shown u) → v ≡ u
same_content f w v u o h p q e =
    let a = accepted f w v o h p in
    let b = accepted f w u o h q in
    let c = ap (content_at_end f true Blank) e in cc

module _ (f : Form) (s t : ℕ) (v u : Content) (hs : s < 1000) (ht : t < 1000) (hv : Fits f 8 v) (hu : Fits f 8 u) (e : fields_text s (shown v) ≡ fields_text t (shown u)) where
  abbrev after : Content → List ℕ
  after x = justified 8 (shown x) ++ (10 ∷ [])

  same_station : s ≡ t
  same_station =
      let a = same_first 3 (justified 3 (decimal s)) (justified 3 (decimal t)) (after v) (after u) (justified-length 3 (decimal s)) (justified-length 3 (decimal t)) e in
      let b = same_content Natural 3 (Number s) (Number t) (lit≤ tt) (lit≤ tt) (station_fits s hs) (station_fits t ht) a in cc

  same_value : v ≡ u
  same_value =
      let a = same_second 3 (justified 3 (decimal s)) (justified 3 (decimal t)) (after v) (after u) (justified-length 3 (decimal s)) (justified-length 3 (decimal t)) e in
      same_content f 8 v u (lit≤ tt) (lit≤ tt) hv hu (same_first 8 (justified 8 (shown v)) (justified 8 (shown u)) (10 ∷ []) (10 ∷ []) (justified-length 8 (shown v)) (justified-length 8 (shown u)) a)

-- lines by their letter, their station and the content of their value field
pub record Lines (X : Type 0) (text_of : X → List ℕ) (Fit : X → Type 0) : Type 1 where
  pub letter_of : X → ℕ
  pub station_of : X → ℕ
  pub content_of : X → Content
  pub form_at : ℕ → Form
  pub from : ℕ → ℕ → Content → X
  pub Known : ℕ → Type 0
  pub any : ℕ
  pub any_known : Known any
  pub known : (x : X) → Known (letter_of x)
  pub known_some : (a : ℕ) → Known a → 1 ≤ a
  pub spelled : (x : X) → text_of x ≡ letter_of x ∷ fields_text (station_of x) (shown (content_of x))
  pub fitted : (x : X) → Fit x → (station_of x < 1000) × Fits (form_at (letter_of x)) 8 (content_of x)
  pub back : (x : X) → from (letter_of x) (station_of x) (content_of x) ≡ x
  pub made : (a s : ℕ) (v : Content) → Known a → s < 1000 → Fits (form_at a) 8 v → Fit (from a s v) × (text_of (from a s v) ≡ a ∷ fields_text s (shown v))

-- what the reader of the fields says of the bytes after a text's first
abbrev pub Read : List ℕ → Form → Result (ℕ × Content) WrongColumn → Type 0
Read text f r = FieldsRead f (take (length text - 1) (drop 1 text)) r

read-on : (text : List ℕ) (f : Form) (r : Result (ℕ × Content) WrongColumn) → Read text f r → FieldsRead f (drop 1 text) r
read-on text f r h = subst (λ t. FieldsRead f t r) (take_rest text 1) h

module _ (X : Type 0) (text_of : X → List ℕ) (Fit : X → Type 0) (g : Lines X text_of Fit) where
  abbrev Legal : List ℕ → Type 0
  Legal l = (x : X) × (Fit x × (l ≡ text_of x))

  only : (a : ℕ) (l : List ℕ) → Legal (a ∷ l) → (g.Known a) × FieldsText (g.form_at a) l
  only a l (x, (fit, e)) =
      let h = e ∙ g.spelled x in
      let p : g.letter_of x ≡ a = cc in
      let q : l ≡ fields_text (g.station_of x) (shown (g.content_of x)) = cc in
      let f = g.fitted x fit in
      subst (λ b. (g.Known b) × FieldsText (g.form_at b) l) p (g.known x, (g.station_of x, (g.content_of x, (f.0, (f.1, q)))))

  lawful : (a : ℕ) (l : List ℕ) → g.Known a → FieldsText (g.form_at a) l → Legal (a ∷ l)
  lawful a l k (s, (v, (h, (f, e)))) = let m = g.made a s v k h f in (g.from a s v, (m.0, ap (λ u. a ∷ u) e ∙ sym m.1))

  never_empty : Legal [] → ⊥
  never_empty (x, (fit, e)) = let h = e ∙ g.spelled x in let z : ◌≡◌ {A = ℕ} 0 1 = cc in omega arith

  unknown : (text l : List ℕ) → (1 ≤ length text → g.Known (get_or text 0 0) → ⊥) → Legal l → take 1 l ≡ take 1 text → ⊥
  unknown text [] not a e = never_empty a
  unknown [] (y ∷ l) not a e = let z : ◌≡◌ {A = ℕ} 0 1 = cc in omega arith
  unknown (b ∷ text) (y ∷ l) not a e = let p : y ≡ b = cc in not (omega arith) (subst g.Known p (only y l a).0)

  pub wrong_letter : (text : List ℕ) → (1 ≤ length text → g.Known (get_or text 0 0) → ⊥) → Wrong Legal text 1
  wrong_letter text not =
      record {
        least = lit≤ tt;
        most = lit≤ tt;
        within = omega arith;
        none = λ l a e. unknown text l not a e;
        some = λ k h. let z : k ≡ 0 = omega arith in
            let l : List ℕ = fields_text 0 (shown (Number 0)) in
            (g.any ∷ l, (lawful g.any l g.any_known (0, (Number 0, (lit< tt, ((lit< tt, λ _. refl), refl)))), rw z));
      }

  module _ (a : ℕ) (k : g.Known a) (rest : List ℕ) where
    later_ends : (d : ℕ) → Stops (FieldsText (g.form_at a)) rest d → (l : List ℕ) → Legal l → take (suc (suc d)) l ≡ take (suc (suc d)) (a ∷ rest) → ⊥
    later_ends d st [] q e = never_empty q
    later_ends d st (y ∷ l) q e =
        let p : y ≡ a = cc in
        let r : take (suc d) l ≡ take (suc d) rest = cc in
        st.ends l (subst (λ b. FieldsText (g.form_at b) l) p (only y l q).1) r

    wrong_fields : (c : WrongColumn) → FieldsRead (g.form_at a) rest (Err c) → Wrong Legal (a ∷ rest) c.0
    wrong_fields c (d, (e, (h, st))) =
        let n : suc (suc d) ≡ c.0 = omega arith in
        let w = st.goes in
        let z : length w.0 ≡ 12 = sized_fields (g.form_at a) w.0 w.1.0 in
        let m : min d (length w.0) ≡ min d (length rest) = sym (length-take d w.0) ∙ ap length w.1.1 ∙ length-take d rest in
        record {
          least = omega arith;
          most = omega arith;
          within = omega arith;
          none = subst (λ m. (l : List ℕ) → Legal l → take m l ≡ take m (a ∷ rest) → ⊥) n (later_ends d st);
          some = λ i lt.
              let u : i ≤ suc d = omega arith in
              let line : List ℕ = a ∷ w.0 in
              let same : take (suc d) line ≡ take (suc d) (a ∷ rest) = ap (λ x. a ∷ x) w.1.1 in
              (line, (lawful a w.0 k w.1.0, sym (take-take i (suc d) line u) ∙ ap (take i) same ∙ take-take i (suc d) (a ∷ rest) u));
        }

    right_fields : (s : ℕ) (v : Content) → FieldsRead (g.form_at a) rest (Ok (s, v)) → Fit (g.from a s v) × (take 13 (a ∷ rest) ≡ text_of (g.from a s v))
    right_fields s v (h, (f, e)) = let m = g.made a s v k h f in (m.0, ap (λ u. a ∷ u) e ∙ sym m.1)

  module _ (text : List ℕ) (a : ℕ) (e : a ≡ get_or text 0 0) (k : g.Known a) where
    split : text ≡ a ∷ drop 1 text
    split =
        let h = g.known_some a k in
        let some : 1 ≤ length text = ⊎_elim (λ (l : length text < 1). let z = get_or_past text 0 0 (omega arith) in absurd (omega arith)) (λ l. l) (cases_lt (length text) 1) in
        rw e (drop-cons text 0 0 some)

    pub wrong : (c : WrongColumn) → Read text (g.form_at a) (Err c) → Wrong Legal text c.0
    wrong c h = subst (λ t. Wrong Legal t c.0) (sym split) (wrong_fields a k (drop 1 text) c (read-on text (g.form_at a) (Err c) h))

    pub right : (s : ℕ) (v : Content) → Read text (g.form_at a) (Ok (s, v)) → Fit (g.from a s v) × (take 13 text ≡ text_of (g.from a s v))
    right s v h = let r = right_fields a k (drop 1 text) s v (read-on text (g.form_at a) (Ok (s, v)) h) in (r.0, ap (take 13) split ∙ r.1)

  pub one : (x y : X) → Fit x → Fit y → text_of x ≡ text_of y → x ≡ y
  one x y p q e =
      let h = sym (g.spelled x) ∙ e ∙ g.spelled y in
      let l : g.letter_of x ≡ g.letter_of y = cc in
      let t : fields_text (g.station_of x) (shown (g.content_of x)) ≡ fields_text (g.station_of y) (shown (g.content_of y)) = cc in
      let fx = subst (λ b. (g.station_of x < 1000) × Fits (g.form_at b) 8 (g.content_of x)) l (g.fitted x p) in
      let fy = g.fitted y q in
      let s = same_station (g.form_at (g.letter_of y)) (g.station_of x) (g.station_of y) (g.content_of x) (g.content_of y) fx.0 fy.0 fx.1 fy.1 t in
      let v = same_value (g.form_at (g.letter_of y)) (g.station_of x) (g.station_of y) (g.content_of x) (g.content_of y) fx.0 fy.0 fx.1 fy.1 t in
      let bx = g.back x in let by = g.back y in cc
