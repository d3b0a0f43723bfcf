-- The first column that is refused is the first at which no field goes on.
use Rattle.std.proofs.Common.{◌≡◌, ℕ, zero, suc, ◌+◌, ◌*◌, ◌<◌, ◌≤◌, true, eqb, List, [], ◌∷◌, length, take, Some, None, Ok, Err, Option, Result, sym, refl, ap, ◌∙◌, add-zero, arith}
use Rattle.std.proofs.lemmas.Bool.{ne_eqb}
use Rattle.columns.specs.declared.field.Form.{Form}
use Rattle.columns.specs.declared.field.Content.{Content}
use Rattle.columns.specs.declared.field.Content.TheVariants.{Blank, Minus, Number, Negative}
use Rattle.columns.specs.declared.wrong.WrongColumn.{WrongColumn}
use Rattle.columns.specs.Field.{shown, content_after, FieldText, FieldRead}
use Rattle.columns.proofs.Justified.{justified-length}
use Rattle.columns.proofs.Scans.{followed, scan}
use Rattle.columns.specs.Stops.{Stops}
use Rattle.columns.proofs.Accepts.{content_at_end, accepted, sound}

-- the words of j bytes that are accepted after s
abbrev Accepted : Form → Content → ℕ → List ℕ → Type 0
Accepted f s j l = (length l ≡ j) × ((v : Content) × (content_at_end f true s l ≡ Some v))

accepted-after : (f : Form) (s t : Content) (b : ℕ) (l : List ℕ) (j : ℕ) → length l ≡ j → content_after f (eqb j 0) s b ≡ Some t → content_at_end f true s (b ∷ l) ≡ content_at_end f true t l
accepted-after f s t b l j n e = rw (n, e)

refused_after : (f : Form) (s : Content) (b : ℕ) (l : List ℕ) (j : ℕ) → length l ≡ j → content_after f (eqb j 0) s b ≡ None → content_at_end f true s (b ∷ l) ≡ None
refused_after f s b l j n e = rw (n, e)

blank_on : (f : Form) (j : ℕ) → content_after f (eqb (suc j) 0) Blank 32 ≡ Some Blank
blank_on f j = rw (ne_eqb (suc j) 0 (λ e. omega arith))

-- the word goes on, whatever the content
can_go_on : (f : Form) (s : Content) (j : ℕ) → (l : List ℕ) × Accepted f s j l
can_go_on f s zero = ([], (refl, (s, refl)))
can_go_on f Blank (suc zero) = (48 ∷ [], (refl, (Number 0, refl)))
can_go_on f Blank (suc (suc j)) = let a = can_go_on f Blank (suc j) in (32 ∷ a.0, (ap suc a.1.0, (a.1.1.0, accepted-after f Blank Blank 32 a.0 (suc j) a.1.0 (blank_on f j) ∙ a.1.1.1)))
can_go_on f Minus (suc j) = let a = can_go_on f (Negative 1) j in (49 ∷ a.0, (ap suc a.1.0, a.1.1))
can_go_on f (Number n) (suc j) = let a = can_go_on f (Number (n * 10 + 0)) j in (48 ∷ a.0, (ap suc a.1.0, a.1.1))
can_go_on f (Negative n) (suc j) = let a = can_go_on f (Negative (n * 10 + 0)) j in (48 ∷ a.0, (ap suc a.1.0, a.1.1))

abbrev Scanned : Form → ℕ → Content → List ℕ → Result Content WrongColumn → Type 0
Scanned f at s bs (Ok v) = content_at_end f true s bs ≡ Some v
Scanned f at s bs (Err c) = (d : ℕ) × ((c.0 ≡ at + d) × ((d < length bs) × Stops (Accepted f s (length bs)) bs d))

same_head : (x b : ℕ) (l bs : List ℕ) → x ∷ l ≡ b ∷ bs → x ≡ b
same_head x b l bs e = cc

same-tail : (x b : ℕ) (l bs : List ℕ) → x ∷ l ≡ b ∷ bs → l ≡ bs
same-tail x b l bs e = cc

module _ (f : Form) (at : ℕ) (s : Content) (b : ℕ) (bs : List ℕ) where
  refused : content_after f (eqb (length bs) 0) s b ≡ None → (l : List ℕ) → Accepted f s (suc (length bs)) l → take 1 l ≡ b ∷ [] → ⊥
  refused e [] a h = let z : ◌≡◌ {A = ℕ} 0 1 = cc in omega arith
  refused e (x ∷ l) a h =
      let n : length l ≡ length bs = omega arith in
      let r : content_at_end f true s (b ∷ l) ≡ Some a.1.0 = rw (same_head x b [] [] h) at a.1.1 in
      let q = refused_after f s b l (length bs) n e in
      let z : ◌≡◌ {A = ℕ} 0 1 = cc in omega arith

  module _ (t : Content) (e : content_after f (eqb (length bs) 0) s b ≡ Some t) (d : ℕ) (st : Stops (Accepted f t (length bs)) bs d) where
    ends_later : (l : List ℕ) → Accepted f s (suc (length bs)) l → take (suc (suc d)) l ≡ take (suc (suc d)) (b ∷ bs) → ⊥
    ends_later [] a h = let z : ◌≡◌ {A = ℕ} 0 1 = cc in omega arith
    ends_later (x ∷ l) a h =
        let n : length l ≡ length bs = omega arith in
        let r : content_at_end f true s (b ∷ l) ≡ Some a.1.0 = rw (same_head x b (take (suc d) l) (take (suc d) bs) h) at a.1.1 in
        st.ends l (n, (a.1.0, sym (accepted-after f s t b l (length bs) n e) ∙ r)) (same-tail x b (take (suc d) l) (take (suc d) bs) h)

    later : Stops (Accepted f s (suc (length bs))) (b ∷ bs) (suc d)
    later = let g = st.goes in
        record { goes = (b ∷ g.0, ((ap suc g.1.0.0, (g.1.0.1.0, accepted-after f s t b g.0 (length bs) g.1.0.0 e ∙ g.1.0.1.1)), ap (λ u. b ∷ u) g.1.1)); ends = ends_later }

  scanned_some : (t : Content) → content_after f (eqb (length bs) 0) s b ≡ Some t → (r : Result Content WrongColumn) → Scanned f (at + 1) t bs r → Scanned f at s (b ∷ bs) r
  scanned_some t e (Ok v) h = accepted-after f s t b bs (length bs) refl e ∙ h
  scanned_some t e (Err c) h = (suc h.0, (omega arith, (omega arith, later t e h.0 h.1.1.1)))

  scanned_by : (o : Option Content) → content_after f (eqb (length bs) 0) s b ≡ o → ((t : Content) → Scanned f (at + 1) t bs (scan f (at + 1) t bs)) → Scanned f at s (b ∷ bs) (followed o (λ t. scan f (at + 1) t bs) (Err (record { 0 = at })))
  scanned_by (Some t) e ih = scanned_some t e (scan f (at + 1) t bs) (ih t)
  scanned_by None e ih = (0, (sym (add-zero at), (omega arith, record { goes = let a = can_go_on f s (suc (length bs)) in (a.0, (a.1, refl)); ends = refused e })))

scanned : (f : Form) (at : ℕ) (s : Content) (bs : List ℕ) → Scanned f at s bs (scan f at s bs)
scanned f at s [] = refl
scanned f at s (b ∷ bs) = scanned_by f at s b bs (content_after f (eqb (length bs) 0) s b) refl (λ t. scanned f (at + 1) t bs)

-- one language in place of another
pub stops_as : (L M : List ℕ → Type 0) → ((l : List ℕ) → L l → M l) → ((l : List ℕ) → M l → L l) → (text : List ℕ) (d : ℕ) → Stops L text d → Stops M text d
stops_as L M to from text d st = record { goes = (st.goes.0, (to st.goes.0 st.goes.1.0, st.goes.1.1)); ends = λ l a. st.ends l (from l a) }

module _ (f : Form) (w : ℕ) (o : 1 ≤ w) (h : w ≤ 8) where
  to_text : (l : List ℕ) → Accepted f Blank w l → FieldText f w l
  to_text l a = (a.1.0, sound f w l a.1.0 a.0 o h a.1.1)

  from_text : (l : List ℕ) → FieldText f w l → Accepted f Blank w l
  from_text l t = rw t.1.1 (justified-length w (shown t.0), (t.0, accepted f w t.0 o h t.1.0))

read_as : (f : Form) (at : ℕ) (bs : List ℕ) (r : Result Content WrongColumn) → 1 ≤ length bs → length bs ≤ 8 → Scanned f at Blank bs r → FieldRead f at bs r
read_as f at bs (Ok v) o h s = sound f (length bs) bs v refl o h s
read_as f at bs (Err c) o h s = (s.0, (s.1.0, (s.1.1.0, stops_as (Accepted f Blank (length bs)) (FieldText f (length bs)) (to_text f (length bs) o h) (from_text f (length bs) o h) bs s.0 s.1.1.1)))

pub field_read : (f : Form) (at : ℕ) (bs : List ℕ) (r : Result Content WrongColumn) → 1 ≤ length bs → length bs ≤ 8 → scan f at Blank bs ≡ r → FieldRead f at bs r
field_read f at bs r o h e = read_as f at bs r o h (rw e at (scanned f at Blank bs))
