use Rattle.std.proofs.Common.{◌≡◌, map, vec_items, ◌∙◌, rules}
use Rattle.sheet.specs.Calls.{to_call}
use Rattle.answering.proofs.RunLines.{run_made, run_written, run_of_lines}
use Rattle.answering.proofs.answer.run_on.Goals as goal

pub returns-clause-ran : goal.returns-clause-ran
returns-clause-ran c =
    let x = c.args.set_up in
    let read = c.in_ok-read.read in
    let calls = c.deref-2.result.now in
    let asked : vec_items c.in_ok-calls.calls ≡ map to_call (vec_items read.calls) = search rules in
    run_of_lines x c.args.later.now (vec_items c.add_end.new.out) (vec_items read.calls) calls read.wrong c.in_ok-read.ensures (c.deref-2.ensures.value ∙ asked)
    (run_written x calls c.in_ok-ran.ran (run_made x calls c.in_ok-ran.ran c.in_ok-ran.ensures.does.1) read.wrong c.events.result.now c.board.result
    c.line_of_set_up.result (vec_items c.in_ok-out.out) (vec_items c.add_events.new.out) (vec_items c.add_end.new.out) c.events.ensures c.board.ensures
    c.line_of_set_up.ensures c.in_ok-out.ensures.items c.in_ok-add_events.ensures c.in_ok-add_end.ensures)
