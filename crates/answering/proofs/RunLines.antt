-- The output of a run, put together from its lines and from the calls that were read.
use Rattle.std.proofs.Common.{◌≡◌, ℕ, List, ◌++◌, map, Option, ap, ◌∙◌, append_assoc}
use Rattle.std.specs.List.{flat_map}
use Rattle.answers.specs.declared.View.{View}
use Rattle.runs.specs.declared.events.Call.{Call}
use Rattle.runs.specs.declared.events.Event.{Event}
use Rattle.rack.specs.Calls.{board_answer}
use Rattle.fast.specs.Meaning.{fast_meaning}
use Rattle.one_bit.specs.Meaning.{one_bit_meaning}
use Rattle.kinds.specs.Runs.{events_in, board_in, kind_events, kind_board, KindCalls}
use Rattle.kinds.specs.declared.LockKind.{LockKind}
use Rattle.kinds.specs.declared.LockKind.TheVariants.{Fast, OneBit}
use Rattle.kinds.specs.declared.KindRan.{KindRan}
use Rattle.kinds.specs.declared.KindRan.TheVariants.{OnFast, OnOneBit}
use Rattle.sheet.specs.declared.calls.WrongForm.{WrongForm}
use Rattle.sheet.specs.declared.line.Call.{Call as Line}
use Rattle.kinds.specs.declared.set_up.SetUp.{SetUp}
use Rattle.sheet.specs.Sheet.{Later}
use Rattle.sheet.specs.Calls.{to_call}
use Rattle.output.specs.Output.{set_up_line, event_line, end_lines}
use Rattle.answering.specs.Answer.{run_lines, Run}

-- what came of the calls, and what the board shows after them, by the kind of lock, the number of stations and the start
pub record RunMade (x : SetUp) (calls : List Call) (ran : KindRan) : Type 0 where
  pub events_are : events_in ran ≡ kind_events x.kind x.stations x.start calls
  pub board_is : board_in ran ≡ kind_board x.kind x.stations x.start calls

made : (kind : LockKind) (n start : ℕ) (calls : List Call) (ran : KindRan) → KindCalls kind n start calls ran → (events_in ran ≡ kind_events kind n start calls) × (board_in ran ≡ kind_board kind n start calls)
made Fast n start calls (OnFast d) h = (h.events_are, ap (board_answer fast_meaning) h.rack_is)
made Fast n start calls (OnOneBit d) h = absurd h
made OneBit n start calls (OnFast d) h = absurd h
made OneBit n start calls (OnOneBit d) h = (h.events_are, ap (board_answer one_bit_meaning) h.rack_is)

pub run_made : (x : SetUp) (calls : List Call) (ran : KindRan) → KindCalls x.kind x.stations x.start calls ran → RunMade x calls ran
run_made x calls ran h = let (events, board) = made x.kind x.stations x.start calls ran h in record { events_are = events; board_is = board }

-- the lines of the set-up, of the events and of the end, one after the other
module _ (x : SetUp) (calls : List Call) (ran : KindRan) (h : RunMade x calls ran) where
  pub run_written : (wrong : Option WrongForm) (events : List Event) (board : View) (line one two three : List ℕ) → events ≡ events_in ran → board ≡ board_in ran →
      line ≡ set_up_line x 0 → one ≡ line → two ≡ one ++ flat_map event_line events → three ≡ two ++ end_lines wrong board → three ≡ run_lines x calls wrong
  run_written wrong events board line one two three told shown said first then last =
      last ∙ ap (λ z. z ++ end_lines wrong board) then ∙ append_assoc one (flat_map event_line events) (end_lines wrong board) ∙
      ap (λ z. z ++ (flat_map event_line events ++ end_lines wrong board)) (first ∙ said) ∙
      ap (λ z. set_up_line x 0 ++ (flat_map event_line z ++ end_lines wrong board)) (told ∙ h.events_are) ∙
      ap (λ z. set_up_line x 0 ++ (flat_map event_line (kind_events x.kind x.stations x.start calls) ++ end_lines wrong z)) (shown ∙ h.board_is)

-- the calls are those of the lines that were read
pub run_of_lines : (x : SetUp) (later out : List ℕ) (lines : List Line) (calls : List Call) (wrong : Option WrongForm) → Later 2 later lines wrong → calls ≡ map to_call lines →
    out ≡ run_lines x calls wrong → Run x later out
run_of_lines x later out lines calls wrong read asked written = record { lines = lines; wrong = wrong; read = read; written = written ∙ ap (λ xs. run_lines x xs wrong) asked }
