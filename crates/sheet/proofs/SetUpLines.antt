-- Set-ups as lines of a letter, a number of stations and a start.
use Rattle.std.proofs.Common.{◌≡◌, ℕ, ◌^◌, ◌<◌, ◌≤◌, cond, eqb, ◌⊎◌, List, ◌∷◌, length, get_or, Ok, Err, refl, ap, subst, inl, inr, arith}
use Rattle.kinds.specs.declared.LockKind.{LockKind}
use Rattle.kinds.specs.declared.LockKind.TheVariants.{Fast, OneBit}
use Rattle.columns.specs.declared.field.Form.TheVariants.{Natural}
use Rattle.columns.specs.declared.field.Content.{Content}
use Rattle.columns.specs.declared.field.Content.TheVariants.{Number}
use Rattle.kinds.specs.declared.set_up.SetUp.{SetUp}
use Rattle.columns.specs.declared.wrong.WrongColumn.{WrongColumn}
use Rattle.columns.specs.Field.{shown, size_of, Fits, fields_text}
use Rattle.kinds.specs.Names.{kind_letter}
use Rattle.sheet.specs.Line.{set_up_letter, set_up_text, FitsSetUp, Wrong, LegalFirst, SetUpRead}
use Rattle.sheet.proofs.Lines.{Lines, Read, wrong_letter, wrong, right}

abbrev kind_at : ℕ → LockKind
kind_at a = cond (eqb a 70) Fast OneBit

abbrev Known : ℕ → Type 0
Known a = (a ≡ 70) ⊎ (a ≡ 66)

known : (k : LockKind) → Known (kind_letter k)
known Fast = inl refl
known OneBit = inr refl

-- kind by kind, so that it fails where two kinds of set-up have one letter
letter_known : (k : LockKind) (n s : ℕ) → Known (set_up_letter (record { kind = k; stations = n; start = s }))
letter_known Fast n s = inl refl
letter_known OneBit n s = inr refl

known_some : (a : ℕ) → Known a → 1 ≤ a
known_some a k = grind arith

kind_back : (k : LockKind) → kind_at (kind_letter k) ≡ k
kind_back Fast = refl
kind_back OneBit = refl

abbrev set_up_from : ℕ → ℕ → Content → SetUp
set_up_from a s v = record { kind = kind_at a; stations = s; start = size_of v }

kind_known : (a : ℕ) → Known a → kind_letter (kind_at a) ≡ a
kind_known a (inl e) = rw e
kind_known a (inr e) = rw e

letter_from : (a s : ℕ) (v : Content) → Known a → set_up_letter (set_up_from a s v) ≡ a
letter_from a s v = kind_known a

natural_made : (v : Content) → Fits Natural 8 v → (Number (size_of v) ≡ v) × (size_of v < 10 ^ 8)
natural_made v f = grind arith

made : (a s : ℕ) (v : Content) → Known a → s < 1000 → Fits Natural 8 v → FitsSetUp (set_up_from a s v) × (set_up_text (set_up_from a s v) ≡ a ∷ fields_text s (shown v))
made a s v k h f = let p = natural_made v f in ((h, p.1), rw (letter_from a s v k) (ap (λ u. a ∷ fields_text s (shown u)) p.0))

pub set_ups : Lines SetUp set_up_text FitsSetUp
set_ups =
    record {
      letter_of = set_up_letter;
      station_of = λ x. x.stations;
      content_of = λ x. Number x.start;
      form_at = λ a. Natural;
      from = set_up_from;
      Known = Known;
      any = 66;
      any_known = inr refl;
      known = λ x. letter_known x.kind x.stations x.start;
      known_some = known_some;
      spelled = λ x. refl;
      fitted = λ x f. grind arith;
      back = λ x. rw (kind_back x.kind);
      made = made;
    }

-- what the reader of a set-up answers
module _ (text : List ℕ) where
  pub no_set_up : (1 ≤ length text → (k : LockKind) → get_or text 0 0 ≡ kind_letter k → ⊥) → Wrong LegalFirst text 1
  unfolding set_ups
  no_set_up n = wrong_letter SetUp set_up_text FitsSetUp set_ups text (λ some k. elim k [ inl e ↦ n some Fast e | inr e ↦ n some OneBit e ])

  module _ (k : LockKind) (e : kind_letter k ≡ get_or text 0 0) where
    pub set_up_wrong : (c : WrongColumn) → Read text Natural (Err c) → Wrong LegalFirst text c.0
    unfolding set_ups
    set_up_wrong c h = wrong SetUp set_up_text FitsSetUp set_ups text (kind_letter k) e (known k) c h

    pub set_up_right : (s : ℕ) (v : Content) → Read text Natural (Ok (s, v)) → SetUpRead text (Ok (record { kind = k; stations = s; start = size_of v }))
    unfolding set_ups
    set_up_right s v h =
        subst (λ z. SetUpRead text (Ok (record { kind = z; stations = s; start = size_of v }))) (kind_back k)
        (right SetUp set_up_text FitsSetUp set_ups text (kind_letter k) e (known k) s v h)
