-- How long an output is: each of its lines has 13 bytes, and there is one for each line of the sheet and at most three more.
use Rattle.std.proofs.Common.{◌≡◌, ℕ, suc, ◌+◌, ◌*◌, ◌≤◌, List, [], ◌∷◌, ◌++◌, map, length, Some, None, decimal, Option, refl, ap, ◌∙◌, arith, length-append}
use Rattle.std.proofs.lemmas.List.{length-map}
use Rattle.std.specs.Fmt.{signed_decimal}
use Rattle.std.specs.List.{flat_map}
use Rattle.lock.specs.Meaning.{Meaning}
use Rattle.answers.specs.Numbers.{order_number, slot_number, refusal_number}
use Rattle.answers.specs.declared.View.{View}
use Rattle.rack.specs.declared.calls.Rack.{Rack}
use Rattle.runs.specs.Events.{after, events}
use Rattle.runs.specs.declared.events.Call.{Call}
use Rattle.runs.specs.declared.events.Event.{Event}
use Rattle.runs.specs.declared.events.Event.TheVariants.{Ordered, Slotted, Looked, Shown}
use Rattle.kinds.specs.Runs.{kind_events, kind_board}
use Rattle.kinds.specs.declared.LockKind.{LockKind}
use Rattle.kinds.specs.declared.LockKind.TheVariants.{Fast, OneBit}
use Rattle.one_bit.specs.Plan.{fresh as fresh_one_bit}
use Rattle.one_bit.specs.Meaning.{one_bit_meaning}
use Rattle.fast.specs.Plan.{fresh as fresh_fast}
use Rattle.fast.specs.Meaning.{fast_meaning}
use Rattle.rack.specs.Calls.{fresh_rack}
use Rattle.sheet.specs.declared.calls.WrongForm.{WrongForm as Place}
use Rattle.sheet.specs.declared.line.Call.{Call as Line}
use Rattle.kinds.specs.declared.set_up.SetUp.{SetUp}
use Rattle.columns.specs.Field.{line_text}
use Rattle.kinds.specs.Names.{kind_letter}
use Rattle.sheet.specs.Line.{job_letter, set_up_text, call_text}
use Rattle.columns.proofs.Fields.{line_length}
use Rattle.sheet.proofs.LineLengths.{set_up-length, call_length}
use Rattle.sheet.specs.Calls.{to_call}
use Rattle.output.specs.Output.{set_up_line, event_line, end_lines, sheet_refusal_line}
use Rattle.output.specs.declared.SheetRefusal.{SheetRefusal}
use Rattle.output.specs.declared.SheetRefusal.TheVariants.{WrongForm, TooLong}
use Rattle.answering.specs.Answer.{Run, Begins, too_long, wrong_first, refused, run}
use Rattle.setpoint_c.specs.Bound.{BoundSuffices}

set_up_line-length : (x : SetUp) (number : ℕ) → length (set_up_line x number) ≡ 13
set_up_line-length x number = line_length (kind_letter x.kind) x.stations (decimal number)

event-length : (e : Event) → length (event_line e) ≤ 13
event-length (Ordered i job answer) = let n = line_length (job_letter job) i (decimal (order_number answer)) in omega arith
event-length (Slotted i answer) = let n = line_length 83 i (decimal (slot_number answer)) in omega arith
event-length (Looked i answer) = omega arith
event-length (Shown view) = omega arith

refusal_length : (f : SheetRefusal) → length (sheet_refusal_line f) ≡ 13
refusal_length (WrongForm place) = line_length 88 place.column (decimal place.line)
refusal_length TooLong = line_length 88 0 (decimal 0)

parts : (a b c : List ℕ) → length (a ++ (b ++ c)) ≡ length a + (length b + length c)
parts a b c = simp length-append

three : (a b c : List ℕ) → length a ≡ 13 → length b ≡ 13 → length c ≡ 13 → length (a ++ (b ++ c)) ≤ 39
three a b c p q r = omega (arith, parts a b c)

end_length : (wrong : Option Place) (v : View) → length (end_lines wrong v) ≤ 39
end_length None v =
    three (line_text 80 0 (signed_decimal v.setpoint)) (line_text 68 0 (signed_decimal v.depth)) (line_text 87 0 (signed_decimal v.signer))
    (line_length 80 0 (signed_decimal v.setpoint)) (line_length 68 0 (signed_decimal v.depth)) (line_length 87 0 (signed_decimal v.signer))
end_length (Some place) v = let n = line_length 88 place.column (decimal place.line) in omega arith

module _ {X : Type 0} (f : X → List ℕ) where
  at_most : ((x : X) → length (f x) ≤ 13) → (xs : List X) → length (flat_map f xs) ≤ 13 * length xs
  at_most h [] = omega arith
  at_most h (x ∷ xs) = let one = h x in let more = at_most h xs in simp length-append (omega arith)

  exactly : ((x : X) → length (f x) ≡ 13) → (xs : List X) → length (flat_map f xs) ≡ 13 * length xs
  exactly h [] = omega arith
  exactly h (x ∷ xs) = let one = h x in let more = exactly h xs in simp length-append (omega arith)

-- one event for each call
events-length : {L : Type 0} (m : Meaning L) (r : Rack L) (calls : List Call) → length (events m r calls) ≡ length calls
events-length m r [] = refl
events-length m r (c ∷ cs) = ap suc (events-length m (after m r c) cs)

kind_events-length : (kind : LockKind) (n start : ℕ) (calls : List Call) → length (kind_events kind n start calls) ≡ length calls
kind_events-length Fast n start calls = events-length fast_meaning (fresh_rack (fresh_fast n) start) calls
kind_events-length OneBit n start calls = events-length one_bit_meaning (fresh_rack (fresh_one_bit n) start) calls

-- the lines of a run that has as many events as the sheet has calls
lines_length : (x : SetUp) (es : List Event) (wrong : Option Place) (v : View) (n : ℕ) → length es ≡ n → length (set_up_line x 0 ++ (flat_map event_line es ++ end_lines wrong v)) ≤ 13 + 13 * n + 39
lines_length x es wrong v n e =
    let first = set_up_line-length x 0 in
    let middle = at_most event_line event-length es in
    let last = end_length wrong v in
    let all = parts (set_up_line x 0) (flat_map event_line es) (end_lines wrong v) in
    omega arith

-- the sheet has a line for its set-up and one for each call, and perhaps more
sheet_length : (sheet later rest : List ℕ) (x : SetUp) (lines : List Line) → sheet ≡ set_up_text x ++ later → later ≡ flat_map call_text lines ++ rest → 13 + 13 * length lines ≤ length sheet
sheet_length sheet later rest x lines p q =
    let first = set_up-length x in
    let middle = exactly call_text call_length lines in
    let whole = ap length p ∙ length-append (set_up_text x) later in
    let part = ap length q ∙ length-append (flat_map call_text lines) rest in
    omega arith

run_length : (sheet later output : List ℕ) (x : SetUp) → Begins sheet x later → Run x later output → length output ≤ length sheet + 39
run_length sheet later output x b r =
    let calls = map to_call r.lines in
    let n : length calls ≡ length r.lines = length-map r.lines to_call in
    let out = lines_length x (kind_events x.kind x.stations x.start calls) r.wrong (kind_board x.kind x.stations x.start calls) (length r.lines) (kind_events-length x.kind x.stations x.start calls ∙ n) in
    let text = sheet_length sheet later r.read.rest x r.lines b.split r.read.split in
    let e : length output ≡ _ = ap length r.written in
    omega arith

pub bound_suffices : BoundSuffices
bound_suffices sheet output (too_long h e) = let n = ap length e ∙ refusal_length TooLong in omega arith
bound_suffices sheet output (wrong_first h c w e) = let n = ap length e ∙ refusal_length (WrongForm (record { line = 1; column = c })) in omega arith
bound_suffices sheet output (refused h x l b f r e) = let n = ap length e ∙ set_up_line-length x (refusal_number f) in omega arith
bound_suffices sheet output (run h x l b r s) = let n = run_length sheet l output x b s in omega arith
