-- Calls as lines of a letter, a station and a value.
use Rattle.std.proofs.Common.{◌≡◌, ℕ, zero, suc, ◌^◌, ◌<◌, ◌≤◌, cond, eqb, ◌⊎◌, List, ◌∷◌, length, get_or, ℤ, pos, negsuc, Ok, Err, sym, refl, ap, ◌∙◌, subst, inl, inr, arith, w32, to_z, of_z}
use lib.Signed.{mag}
use Rattle.std.proofs.lemmas.Int.{to_z-of_z}
use Rattle.feed.specs.declared.job.Job.{Job}
use Rattle.feed.specs.declared.job.Job.TheVariants.{Trim, Undo, Sign}
use Rattle.columns.specs.declared.field.Form.{Form}
use Rattle.columns.specs.declared.field.Form.TheVariants.{Natural, Signed, Zero}
use Rattle.columns.specs.declared.field.Content.{Content}
use Rattle.columns.specs.declared.field.Content.TheVariants.{Blank, Minus, Number, Negative}
use Rattle.sheet.specs.declared.line.Call.{Call}
use Rattle.sheet.specs.declared.line.Call.TheVariants.{Order, Slot}
use Rattle.columns.specs.declared.wrong.WrongColumn.{WrongColumn}
use Rattle.columns.specs.Field.{shown, number_of, content_signed, Fits, fields_text}
use Rattle.sheet.specs.Line.{call_letter, call_station, call_value, call_text, FitsCall, Wrong, LegalLater, CallRead}
use Rattle.columns.proofs.Written.{shown-signed}
use Rattle.sheet.proofs.Lines.{Lines, Read, wrong_letter, wrong, right}

-- which values the letter takes, and the call that it gives
abbrev form_at : ℕ → Form
form_at a = cond (eqb a 84) Signed (cond (eqb a 71) Natural Zero)

abbrev call_from : ℕ → ℕ → Content → Call
call_from a s v = cond (eqb a 84) (Order s (Trim (number_of v))) (cond (eqb a 71) (Order s (Sign (number_of v))) (cond (eqb a 85) (Order s Undo) (Slot s)))

abbrev Known : ℕ → Type 0
Known a = (a ≡ 84) ⊎ ((a ≡ 71) ⊎ ((a ≡ 85) ⊎ (a ≡ 83)))

known : (x : Call) → Known (call_letter x)
known (Order s (Trim z)) = inl refl
known (Order s Undo) = inr (inr (inl refl))
known (Order s (Sign z)) = inr (inl refl)
known (Slot s) = inr (inr (inr refl))

known_some : (a : ℕ) → Known a → 1 ≤ a
known_some a k = grind arith

abbrev content_of : Call → Content
content_of x = content_signed (call_value x)

spelled : (x : Call) → call_text x ≡ call_letter x ∷ fields_text (call_station x) (shown (content_of x))
spelled x = ap (λ ds. call_letter x ∷ fields_text (call_station x) ds) (shown-signed (call_value x))

fitted : (x : Call) → FitsCall x → (call_station x < 1000) × Fits (form_at (call_letter x)) 8 (content_of x)
fitted (Order s (Trim (pos n))) f = grind arith
fitted (Order s (Trim (negsuc n))) f = grind arith
fitted (Order s Undo) f = grind arith
fitted (Order s (Sign (pos n))) f = grind arith
fitted (Order s (Sign (negsuc n))) f = absurd f.1
fitted (Slot s) f = grind arith

back : (x : Call) → call_from (call_letter x) (call_station x) (content_of x) ≡ x
back (Order s (Trim (pos n))) = refl
back (Order s (Trim (negsuc n))) = refl
back (Order s Undo) = refl
back (Order s (Sign (pos n))) = refl
back (Order s (Sign (negsuc n))) = refl
back (Slot s) = refl

-- the call of a letter, a station and a value that fits has them as its text
abbrev Made : Call → ℕ → ℕ → Content → Type 0
Made x a s v = FitsCall x × (call_text x ≡ a ∷ fields_text s (shown v))

trim_made : (s : ℕ) (v : Content) → s < 1000 → Fits Signed 8 v → Made (Order s (Trim (number_of v))) 84 s v
trim_made s Blank h f = absurd f
trim_made s Minus h f = absurd f
trim_made s (Number n) h f = ((h, f.0), refl)
trim_made s (Negative zero) h f = absurd (omega arith)
trim_made s (Negative (suc n)) h f = ((h, omega arith), refl)

sign_made : (s : ℕ) (v : Content) → s < 1000 → Fits Natural 8 v → Made (Order s (Sign (number_of v))) 71 s v
sign_made s Blank h f = absurd f
sign_made s Minus h f = absurd f
sign_made s (Number n) h f = ((h, f.0), refl)
sign_made s (Negative n) h f = let e : Natural ≡ Signed = f.0 in let z : ◌≡◌ {A = ℕ} 0 1 = cc in absurd (omega arith)

zero_made : (v : Content) → Fits Zero 8 v → Number 0 ≡ v
zero_made v f = grind arith

undo_made : (s : ℕ) (v : Content) → s < 1000 → Fits Zero 8 v → Made (Order s Undo) 85 s v
undo_made s v h f = ((h, tt), ap (λ u. 85 ∷ fields_text s (shown u)) (zero_made v f))

slot_made : (s : ℕ) (v : Content) → s < 1000 → Fits Zero 8 v → Made (Slot s) 83 s v
slot_made s v h f = (h, ap (λ u. 83 ∷ fields_text s (shown u)) (zero_made v f))

made : (a s : ℕ) (v : Content) → Known a → s < 1000 → Fits (form_at a) 8 v → Made (call_from a s v) a s v
made a s v k h =
    let P : ℕ → Type 0 = λ a. Fits (form_at a) 8 v → Made (call_from a s v) a s v in
    elim k [
      | inl e ↦ subst P (sym e) (trim_made s v h)
      | inr j ↦ elim j [
        | inl e ↦ subst P (sym e) (sign_made s v h)
        | inr i ↦ elim i [ inl e ↦ subst P (sym e) (undo_made s v h) | inr e ↦ subst P (sym e) (slot_made s v h) ]
      ]
    ]

pub calls : Lines Call call_text FitsCall
calls =
    record {
      letter_of = call_letter;
      station_of = call_station;
      content_of = content_of;
      form_at = form_at;
      from = call_from;
      Known = Known;
      any = 84;
      any_known = inl refl;
      known = known;
      known_some = known_some;
      spelled = spelled;
      fitted = fitted;
      back = back;
      made = made;
    }

-- what the reader of a call answers
module _ (text : List ℕ) where
  pub no_call : (1 ≤ length text → (get_or text 0 0 ≡ 84 → ⊥) × (get_or text 0 0 ≡ 71 → ⊥) × (get_or text 0 0 ≡ 85 → ⊥) × (get_or text 0 0 ≡ 83 → ⊥)) → Wrong LegalLater text 1
  unfolding calls
  no_call n = wrong_letter Call call_text FitsCall calls text (λ some k. elim k [ inl e ↦ (n some).0 e | inr j ↦ elim j [ inl e ↦ (n some).1 e | inr i ↦ elim i [ inl e ↦ (n some).2 e | inr e ↦ (n some).3 e ] ] ])

  module _ (a : ℕ) (e : a ≡ get_or text 0 0) (k : Known a) where
    pub call_wrong : (c : WrongColumn) → Read text (form_at a) (Err c) → Wrong LegalLater text c.0
    unfolding calls
    call_wrong c h = wrong Call call_text FitsCall calls text a e k c h

    pub call_right : (s : ℕ) (v : Content) → Read text (form_at a) (Ok (s, v)) → CallRead text (Ok (call_from a s v))
    unfolding calls
    call_right s v h = right Call call_text FitsCall calls text a e k s v h

  -- a signed number comes back from its bits
  pub from_bits : (x : ℤ → Job) (s : ℕ) (y z : ℤ) → mag y < 2 ^ 31 → y ≡ z → CallRead text (Ok (Order s (x z))) → CallRead text (Ok (Order s (x (to_z w32 (of_z w32 y)))))
  from_bits x s y z h e = subst (λ n. CallRead text (Ok (Order s (x n)))) (sym (to_z-of_z w32 y (record { sfits = h }) ∙ e))
