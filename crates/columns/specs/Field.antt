-- A field: a decimal number, right-justified after spaces, and what its columns hold one after the other.
use Rattle.std.specs.Prelude.{◌≡◌, ℕ, zero, suc, ◌+◌, ◌-◌, ◌*◌, ◌/◌, ◌%◌, ◌^◌, ◌<◌, ◌≤◌, Bool, false, cond, List, [], ◌∷◌, ◌++◌, length, take, drop, replicate, ℤ, pos, negsuc, neg_ℤ, Some, None, Ok, Err, decimal, Option, Result, ◌==◌, nat_le, nat_lt}
use Rattle.columns.specs.Stops.{Stops}
use Rattle.columns.specs.declared.field.Form.{Form}
use Rattle.columns.specs.declared.field.Form.TheVariants.{Natural, Signed, Zero}
use Rattle.columns.specs.declared.field.Content.{Content}
use Rattle.columns.specs.declared.wrong.WrongColumn.{WrongColumn}
use Rattle.columns.specs.declared.field.Content.TheVariants.{Blank, Minus, Number, Negative}

-- bytes, right-justified after spaces in w columns; of more than w bytes the last w
abbrev pub justified : ℕ → List ℕ → List ℕ
justified w ds = replicate (w - length ds) 32 ++ drop (length ds - w) ds

-- the bytes of a content, without the spaces
abbrev pub shown : Content → List ℕ
shown Blank = []
shown Minus = 45 ∷ []
shown (Number n) = decimal n
shown (Negative n) = 45 ∷ decimal n

-- a whole number that a field of w columns takes
abbrev pub Fits : Form → ℕ → Content → Type 0
Fits f w Blank = ⊥
Fits f w Minus = ⊥
Fits f w (Number n) = (n < 10 ^ w) × (f ≡ Zero → n ≡ 0)
Fits f w (Negative n) = (f ≡ Signed) × (1 ≤ n) × ((n + 1) * 10 ≤ 10 ^ w)

abbrev pub size_of : Content → ℕ
size_of Blank = 0
size_of Minus = 0
size_of (Number n) = n
size_of (Negative n) = n

abbrev pub number_of : Content → ℤ
number_of Blank = pos 0
number_of Minus = pos 0
number_of (Number n) = pos n
number_of (Negative n) = neg_ℤ (pos n)

-- a number's content
abbrev pub content_signed : ℤ → Content
content_signed (pos n) = Number n
content_signed (negsuc n) = Negative (suc n)

abbrev pub first_digit : Form → ℕ → Option Content
first_digit Natural b = Some (Number (b - 48))
first_digit Signed b = Some (Number (b - 48))
first_digit Zero b = None

abbrev pub first_minus : Form → Option Content
first_minus Natural = None
first_minus Signed = Some Minus
first_minus Zero = None

-- a digit from `low` to '9', as a Bool
abbrev pub digit : ℕ → ℕ → Bool
digit low b = cond (nat_le low b) (nat_le b 57) false

-- the content after the column b, the last of its field or not
abbrev pub content_after : Form → Bool → Content → ℕ → Option Content
content_after f last Blank b =
    cond (b == 32) (cond last None (Some Blank))
    (cond (b == 48) (cond last (Some (Number 0)) None)
    (cond (digit 49 b) (first_digit f b)
    (cond (b == 45) (cond last None (first_minus f)) None)))
content_after f last Minus b = cond (digit 49 b) (Some (Negative (b - 48))) None
content_after f last (Number n) b = cond (digit 48 b) (Some (Number (n * 10 + (b - 48)))) None
content_after f last (Negative n) b = cond (digit 48 b) (Some (Negative (n * 10 + (b - 48)))) None

-- the content before the last column, and that column
abbrev pub content_before : Content → Content × ℕ
content_before Blank = (Blank, 32)
content_before Minus = (Blank, 45)
content_before (Number n) = cond (nat_lt n 10) (Blank, 48 + n) (Number (n / 10), 48 + n % 10)
content_before (Negative n) = cond (nat_lt n 10) (Minus, 48 + n) (Negative (n / 10), 48 + n % 10)

-- the last w columns
abbrev pub written : ℕ → Content → List ℕ
written zero s = []
written (suc w) s = written w (content_before s).0 ++ ((content_before s).1 ∷ [])

-- the texts that a field of w columns takes
abbrev pub FieldText : Form → ℕ → List ℕ → Type 0
FieldText f w l = (v : Content) × (Fits f w v × (l ≡ justified w (shown v)))

-- what the reader of a field answers: the number that stands there, or the column, counted from `at`, where no field goes on
abbrev pub FieldRead : Form → ℕ → List ℕ → Result Content WrongColumn → Type 0
FieldRead f at bs (Ok v) = Fits f (length bs) v × (bs ≡ justified (length bs) (shown v))
FieldRead f at bs (Err wrong) = (d : ℕ) × ((wrong.0 ≡ at + d) × ((d < length bs) × Stops (FieldText f (length bs)) bs d))

-- the 12 bytes after a line's letter: a station, the bytes of a value, a line feed
abbrev pub fields_text : ℕ → List ℕ → List ℕ
fields_text station ds = justified 3 (decimal station) ++ (justified 8 ds ++ (10 ∷ []))

abbrev pub FieldsText : Form → List ℕ → Type 0
FieldsText f l = (s : ℕ) × ((v : Content) × ((s < 1000) × (Fits f 8 v × (l ≡ fields_text s (shown v)))))

-- what the reader of both fields answers, the column counted from the line's first
abbrev pub FieldsRead : Form → List ℕ → Result (ℕ × Content) WrongColumn → Type 0
FieldsRead f rest (Ok p) = (p.0 < 1000) × (Fits f 8 p.1 × (take 12 rest ≡ fields_text p.0 (shown p.1)))
FieldsRead f rest (Err wrong) = (d : ℕ) × ((wrong.0 ≡ d + 2) × ((d < 12) × Stops (FieldsText f) rest d))

-- a letter, a station in 3 columns, the bytes of a value in 8 columns, a line feed
abbrev pub line_text : ℕ → ℕ → List ℕ → List ℕ
line_text letter station value = letter ∷ (justified 3 (decimal station) ++ (justified 8 value ++ (10 ∷ [])))
