-- The legal lines of a sheet, and the wrong column of one that is not legal.
use Rattle.std.specs.Prelude.{◌≡◌, ℕ, ◌+◌, ◌^◌, ◌<◌, ◌≤◌, List, length, take, ℤ, pos, negsuc, Ok, Err, decimal, Result, ◌≢◌}
use Rattle.std.specs.Fmt.{signed_decimal}
use Rattle.feed.specs.declared.job.Job.{Job}
use Rattle.feed.specs.declared.job.Job.TheVariants.{Trim, Undo, Sign}
use Rattle.kinds.specs.declared.set_up.SetUp.{SetUp}
use Rattle.kinds.specs.Names.{kind_letter}
use Rattle.sheet.specs.declared.line.Call.{Call}
use Rattle.sheet.specs.declared.line.Call.TheVariants.{Order, Slot}
use Rattle.columns.specs.declared.wrong.WrongColumn.{WrongColumn}
use Rattle.columns.specs.Field.{line_text}

-- a set-up's letter, which is that of its kind of lock
abbrev pub set_up_letter : SetUp → ℕ
set_up_letter x = kind_letter x.kind

abbrev pub set_up_text : SetUp → List ℕ
set_up_text x = line_text (set_up_letter x) x.stations (decimal x.start)

-- 'T', 'U' and 'G'
abbrev pub job_letter : Job → ℕ
job_letter (Trim permille) = 84
job_letter Undo = 85
job_letter (Sign value) = 71

abbrev pub job_value : Job → ℤ
job_value (Trim permille) = permille
job_value Undo = pos 0
job_value (Sign value) = value

-- 'S' for a slot
abbrev pub call_letter : Call → ℕ
call_letter (Order station job) = job_letter job
call_letter (Slot station) = 83

abbrev pub call_station : Call → ℕ
call_station (Order station job) = station
call_station (Slot station) = station

abbrev pub call_value : Call → ℤ
call_value (Order station job) = job_value job
call_value (Slot station) = pos 0

abbrev pub call_text : Call → List ℕ
call_text x = line_text (call_letter x) (call_station x) (signed_decimal (call_value x))

-- a value in at most 8 columns, a minus sign among them; only a trim takes one
abbrev pub FitsJob : Job → Type 0
FitsJob (Trim (pos n)) = n < 10 ^ 8
FitsJob (Trim (negsuc n)) = n + 1 < 10 ^ 7
FitsJob Undo = Unit {0}
FitsJob (Sign (pos n)) = n < 10 ^ 8
FitsJob (Sign (negsuc n)) = ⊥

abbrev pub FitsSetUp : SetUp → Type 0
FitsSetUp x = (x.stations < 1000) × (x.start < 10 ^ 8)

abbrev pub FitsCall : Call → Type 0
FitsCall (Order station job) = (station < 1000) × FitsJob job
FitsCall (Slot station) = station < 1000

abbrev pub LegalFirst : List ℕ → Type 0
LegalFirst l = (x : SetUp) × (FitsSetUp x × (l ≡ set_up_text x))

abbrev pub LegalLater : List ℕ → Type 0
LegalLater l = (x : Call) × (FitsCall x × (l ≡ call_text x))

-- c is the smallest number such that no legal line begins with the first c bytes of the text; where the text ends too early, c is the first that it lacks
pub record Wrong (Legal : List ℕ → Type 0) (text : List ℕ) (c : ℕ) : Type 0 where
  pub least : 1 ≤ c
  pub most : c ≤ 13
  pub within : c ≤ length text + 1
  pub none : (l : List ℕ) → Legal l → take c l ≢ take c text
  pub some : (k : ℕ) → k < c → (l : List ℕ) × (Legal l × (take k l ≡ take k text))

-- what the readers answer: what a line says, or its wrong column
abbrev pub SetUpRead : List ℕ → Result SetUp WrongColumn → Type 0
SetUpRead text (Ok x) = FitsSetUp x × (take 13 text ≡ set_up_text x)
SetUpRead text (Err wrong) = Wrong LegalFirst text wrong.0

abbrev pub CallRead : List ℕ → Result Call WrongColumn → Type 0
CallRead text (Ok x) = FitsCall x × (take 13 text ≡ call_text x)
CallRead text (Err wrong) = Wrong LegalLater text wrong.0

-- a line says one thing
abbrev pub OneSetUp : Type 0
OneSetUp = (x y : SetUp) → FitsSetUp x → FitsSetUp y → set_up_text x ≡ set_up_text y → x ≡ y

abbrev pub OneCall : Type 0
OneCall = (x y : Call) → FitsCall x → FitsCall y → call_text x ≡ call_text y → x ≡ y
