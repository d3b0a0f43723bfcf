-- The loop that reads call after call: the text is the texts of the calls so far, and a rest.
use Rattle.std.proofs.Common.{◌≡◌, ℕ, ◌+◌, ◌<◌, ◌≤◌, min, List, [], ◌∷◌, ◌++◌, length, take, Some, None, Ok, Err, sym, ap, ◌∙◌, ⊎_elim, append_assoc, arith, length-append}
use Rattle.std.specs.List.{flat_map, All}
use Rattle.std.proofs.lemmas.Bool.{cases_lt}
use Rattle.std.proofs.lemmas.List.{nil_from_length, take_all, take-append-le, flat_map_more, append-nil}
use Rattle.std.proofs.lemmas.List.Elements.{All-push}
use Rattle.columns.specs.declared.wrong.WrongColumn.{WrongColumn}
use Rattle.sheet.specs.declared.line.Call.{Call}
use Rattle.sheet.specs.Line.{call_text, FitsCall, CallRead, LegalLater, Wrong}
use Rattle.sheet.specs.Sheet.{Later}

pub record Reading (text : List ℕ) (calls : List Call) (rest : List ℕ) : Type 0 where
  pub fits : All FitsCall calls
  pub split : text ≡ flat_map call_text calls ++ rest

pub reading_end : (text : List ℕ) (calls : List Call) (rest : List ℕ) → Reading text calls rest → length rest ≡ 0 → Later 2 text calls None
reading_end text calls rest r e = record { rest = rest; fits = r.fits; split = r.split; ends = nil_from_length rest e }

-- a line is cut off the rest: 13 bytes, or all where it has no more
module _ (text : List ℕ) (calls : List Call) (rest line more : List ℕ) (r : Reading text calls rest) (cut : rest ≡ line ++ more) (size : length line ≡ min 13 (length rest)) where
  -- up to 13 bytes, the line and the rest are alike
  alike : (k : ℕ) → k ≤ 13 → take k line ≡ take k rest
  alike k h =
      let n = ap length cut ∙ length-append line more in
      ⊎_elim
      (λ (short : length line < 13). let e : more ≡ [] = nil_from_length more (omega arith) in rw (cut, e, append-nil))
      (λ (full : 13 ≤ length line). rw cut (sym (take-append-le k line more (omega arith))))
      (cases_lt (length line) 13)

  pub reading_more : (x : Call) (after : List Call) → after ≡ calls ++ x ∷ [] → CallRead line (Ok x) → Reading text after more
  reading_more x after e h =
      let whole : line ≡ call_text x = sym (take_all 13 line (omega arith)) ∙ h.1 in
      rw e
      (record {
        fits = All-push FitsCall calls x r.fits h.0;
        split =
            r.split ∙ ap (λ u. flat_map call_text calls ++ u) (cut ∙ ap (λ u. u ++ more) whole) ∙
            sym (append_assoc (flat_map call_text calls) (call_text x) more) ∙ ap (λ u. u ++ more) (flat_map_more call_text [] calls x);
      })

  wrong_rest : (c : ℕ) → Wrong LegalLater line c → Wrong LegalLater rest c
  wrong_rest c w =
      let n = ap length cut ∙ length-append line more in
      record {
        least = w.least;
        most = w.most;
        within = omega (arith, w.within);
        none = λ l a e. w.none l a (e ∙ sym (alike c w.most));
        some = λ k h. let s = w.some k h in (s.0, (s.1.0, s.1.1 ∙ alike k (omega (arith, w.most))));
      }

  pub reading_wrong : 0 < length rest → (column : WrongColumn) (number : ℕ) → number ≡ length calls + 2 → CallRead line (Err column) → Later 2 text calls (Some (record { line = number; column = column.0 }))
  reading_wrong some column number e w = record { rest = rest; fits = r.fits; split = r.split; ends = (omega arith, (omega arith, wrong_rest column.0 w)) }
