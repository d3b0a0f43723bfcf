-- The 12 bytes after a letter: the two fields and the line feed.
use Rattle.std.proofs.Common.{◌≡◌, ℕ, suc, ◌+◌, ◌-◌, ◌%◌, ◌^◌, ◌<◌, List, [], ◌∷◌, ◌++◌, length, get_or, take, drop, replicate, Ok, Err, decimal, Result, sym, refl, ap, ◌∙◌, subst, arith, lit<, lit≤, length-append}
use Rattle.std.proofs.lemmas.Fmt.{decimal_by_steps}
use Rattle.std.proofs.lemmas.List.Elements.{All-nil, All-cons, All-append, All-replicate, All-drop}
use Rattle.columns.specs.declared.field.Form.{Form}
use Rattle.columns.specs.declared.field.Form.TheVariants.{Natural, Signed}
use Rattle.columns.specs.declared.field.Content.{Content}
use Rattle.columns.specs.declared.field.Content.TheVariants.{Blank, Minus, Number, Negative}
use Rattle.columns.specs.declared.wrong.WrongColumn.{WrongColumn}
use Rattle.columns.specs.Field.{justified, shown, size_of, Fits, FieldText, FieldRead, fields_text, FieldsText, FieldsRead, line_text}
use Rattle.columns.specs.Stops.{Stops}
use Rattle.columns.proofs.Justified.{justified-length}
use Rattle.columns.proofs.Columns.{stops_as}
use Rattle.columns.proofs.Words.{Joined, stops_first, stops_second}
use Rattle.columns.proofs.Missing.{columns, same-columns, Positive, Nonzero, stops_filled, whole_filled}

-- no byte of them is 0
joined : (u v : List ℕ) → Nonzero u → Nonzero v → Nonzero (u ++ v)
joined = All-append Positive

one_byte : (b : ℕ) → Positive b → Nonzero (b ∷ [])
one_byte b h = All-cons Positive b [] h (All-nil Positive)

nonzero_decimal : (n : ℕ) → n < 2 ^ 64 → Nonzero (decimal n)
nonzero_decimal = decimal_by_steps (λ n ds. Nonzero ds) (λ n h. one_byte (48 + n) (omega arith)) (λ n ds h p. joined ds ((48 + n % 10) ∷ []) p (one_byte (48 + n % 10) (omega arith)))

nonzero_shown : (f : Form) (v : Content) → Fits f 8 v → Nonzero (shown v)
nonzero_shown f Blank g = absurd g
nonzero_shown f Minus g = absurd g
nonzero_shown f (Number n) g = nonzero_decimal n (omega arith)
nonzero_shown f (Negative n) g = All-cons Positive 45 (decimal n) (lit≤ tt) (nonzero_decimal n (omega arith))

nonzero_justified : (w : ℕ) (ds : List ℕ) → Nonzero ds → Nonzero (justified w ds)
nonzero_justified w ds p =
    joined (replicate (w - length ds) 32) (drop (length ds - w) ds) (All-replicate Positive (w - length ds) 32 (lit≤ tt)) (All-drop Positive (length ds - w) ds p)

-- the two fields and the line feed
abbrev End : List ℕ → Type 0
End l = l ≡ 10 ∷ []

abbrev Parts : Form → List ℕ → Type 0
Parts f = Joined (FieldText Natural 3) (Joined (FieldText f 8) End)

pub station_fits : (s : ℕ) → s < 1000 → Fits Natural 3 (Number s)
station_fits s h = (h, λ z. let u : ◌≡◌ {A = ℕ} 0 1 = cc in absurd (omega arith))

station_natural : (v : Content) → Fits Natural 3 v → (shown v ≡ decimal (size_of v)) × (size_of v < 1000)
station_natural Blank g = absurd g
station_natural Minus g = absurd g
station_natural (Number n) g = (refl, g.0)
station_natural (Negative n) g = let e : Natural ≡ Signed = g.0 in let z : ◌≡◌ {A = ℕ} 0 1 = cc in absurd (omega arith)

to_fields : (f : Form) (l : List ℕ) → Parts f l → FieldsText f l
to_fields f l (u, (v, (s, ((x, (y, (p, (e, h)))), g)))) =
    let q = station_natural s.0 s.1.0 in
    (size_of s.0, (p.0, (q.1, (p.1.0, g ∙ rw (s.1.1, h, p.1.1, e, q.0)))))

from_fields : (f : Form) (l : List ℕ) → FieldsText f l → Parts f l
from_fields f l (s, (v, (h, (g, e)))) =
    (justified 3 (decimal s), (justified 8 (shown v) ++ (10 ∷ []), ((Number s, (station_fits s h, refl)), ((justified 8 (shown v), (10 ∷ [], ((v, (g, refl)), (refl, refl)))), e))))

sized_field : (f : Form) (w : ℕ) (l : List ℕ) → FieldText f w l → length l ≡ w
sized_field f w l t = rw t.1.1 (justified-length w (shown t.0))

pub fields_length : (s : ℕ) (ds : List ℕ) → length (fields_text s ds) ≡ 12
fields_length s ds =
    rw (length-append (justified 3 (decimal s)) (justified 8 ds ++ (10 ∷ [])), length-append (justified 8 ds) (10 ∷ []), justified-length 3 (decimal s), justified-length 8 ds)

pub line_length : (letter station : ℕ) (ds : List ℕ) → length (line_text letter station ds) ≡ 13
line_length letter station ds = ap suc (fields_length station ds)

pub sized_fields : (f : Form) (l : List ℕ) → FieldsText f l → length l ≡ 12
sized_fields f l (s, (v, (h, (g, e)))) = rw e (fields_length s (shown v))

nonzero_fields : (f : Form) (l : List ℕ) → FieldsText f l → Nonzero l
nonzero_fields f l (s, (v, (h, (g, e)))) =
    rw e (joined (justified 3 (decimal s)) (justified 8 (shown v) ++ (10 ∷ [])) (nonzero_justified 3 (decimal s) (nonzero_decimal s (omega arith)))
    (joined (justified 8 (shown v)) (10 ∷ []) (nonzero_justified 8 (shown v) (nonzero_shown f v g)) (one_byte 10 (lit≤ tt))))

no_feed : (b : ℕ) → (b ≡ 10 → ⊥) → Stops End (b ∷ []) 0
no_feed b ne = record { goes = (10 ∷ [], (refl, refl)); ends = λ l a e. ne (let h : take 1 (10 ∷ []) ≡ b ∷ [] = rw a at e in let q : b ≡ 10 = cc in q) }

module _ (f : Form) (r rest : List ℕ) (same : (k : ℕ) → k < 12 → get_or r k 0 ≡ get_or rest k 0) where
  all_same : columns 12 0 r ≡ columns 12 0 rest
  all_same = same-columns r rest 12 same 12 0 (lit≤ tt)

  from_parts : (d : ℕ) → d < 12 → Stops (Parts f) (columns 12 0 r) d → Stops (FieldsText f) rest d
  from_parts d h st =
      stops_filled (FieldsText f) 12 (sized_fields f) (nonzero_fields f) rest d h
      (subst (λ t. Stops (FieldsText f) t d) all_same (stops_as (Parts f) (FieldsText f) (to_fields f) (from_fields f) (columns 12 0 r) d st))

  abbrev tail : List ℕ
  tail = columns 8 3 r ++ columns 1 11 r

  -- what the readers of the two fields say
  abbrev Station : Result Content WrongColumn → Type 0
  Station x = FieldRead Natural 2 (columns 3 0 r) x

  abbrev Value : Result Content WrongColumn → Type 0
  Value x = FieldRead f 5 (columns 8 3 r) x

  in_station : (d : ℕ) → Stops (Joined (FieldText f 8) End) tail d → (x : Content) → Station (Ok x) → Stops (Parts f) (columns 12 0 r) (3 + d)
  in_station d st x h = stops_second (FieldText Natural 3) (Joined (FieldText f 8) End) 3 (sized_field Natural 3) (columns 3 0 r) tail d (x, h) st

  pub station_wrong : (c : WrongColumn) → Station (Err c) → FieldsRead f rest (Err c)
  station_wrong c s =
      let (d, wrong) = s in
      let zero_text : List ℕ = justified 8 (decimal 0) in (
        d,
        (
          omega arith,
          (
            omega arith,
            from_parts d (omega arith)
                (stops_first (FieldText Natural 3) (Joined (FieldText f 8) End) 3 (sized_field Natural 3) (columns 3 0 r) tail d refl wrong.1.0
                (zero_text ++ (10 ∷ [])) (zero_text, (10 ∷ [], ((Number 0, ((lit< tt, λ z. refl), refl)), (refl, refl)))) wrong.1.1),
          ),
        ),
      )

  pub value_wrong : (x : Content) → Station (Ok x) → (c : WrongColumn) → Value (Err c) → FieldsRead f rest (Err c)
  value_wrong x g c v =
      let (d, wrong) = v in (
        3 + d,
        (
          omega arith,
          (
            omega arith,
            from_parts (3 + d) (omega arith)
                (in_station d (stops_first (FieldText f 8) End 8 (sized_field f 8) (columns 8 3 r) (columns 1 11 r) d refl wrong.1.0 (10 ∷ []) refl wrong.1.1) x g),
          ),
        ),
      )

  module _ (x y : Content) (g : Station (Ok x)) (v : Value (Ok y)) where
    pub end_wrong : (get_or r 11 0 ≡ 10 → ⊥) → FieldsRead f rest (Err (record { 0 = 13 }))
    end_wrong ne = (
      11,
      (
        refl,
        (
          lit< tt,
          from_parts 11 (lit< tt)
              (in_station 8 (stops_second (FieldText f 8) End 8 (sized_field f 8) (columns 8 3 r) (columns 1 11 r) 0 (y, v) (no_feed (get_or r 11 0) ne)) x g),
        ),
      ),
    )

    natural : (shown x ≡ decimal (size_of x)) × (size_of x < 1000)
    natural = station_natural x g.0

    read : get_or r 11 0 ≡ 10 → columns 12 0 r ≡ fields_text (size_of x) (shown y)
    read e =
        let a : columns 3 0 r ≡ justified 3 (decimal (size_of x)) = g.1 ∙ ap (justified 3) natural.0 in
        ap (λ u. u ++ tail) a ∙ ap (λ u. justified 3 (decimal (size_of x)) ++ (u ++ columns 1 11 r)) v.1 ∙ ap (λ b. justified 3 (decimal (size_of x)) ++ (justified 8 (shown y) ++ (b ∷ []))) e

    pub all_right : get_or r 11 0 ≡ 10 → FieldsRead f rest (Ok (size_of x, y))
    all_right e =
        let fits = v.0 in
        let t : FieldsText f (columns 12 0 rest) = (size_of x, (y, (natural.1, (fits, sym all_same ∙ read e)))) in
        (natural.1, (fits, whole_filled (FieldsText f) 12 (sized_fields f) (nonzero_fields f) rest t ∙ sym all_same ∙ read e))
