use Rattle.std.proofs.Common.{vec_items, ◌∙◌, arith}
use Rattle.sheet.proofs.Readings.{reading_more, reading_end, reading_wrong}
use Rattle.sheet.proofs.calls.read_calls.Goals as goal

pub returns-in-Err : goal.returns-in-Err
returns-in-Err c =
    let cut = c.in-Some.ensures.steps in
    let size = rw c.loop-line.invariant.thirteen at cut.1.1 in
    reading_wrong c.args.text.now (vec_items c.loop-line.calls) _ c.in-Some.line.now _ c.loop-line.invariant.reading cut.1.0 size cut.1.2 c.in-Err.field-0 _ (omega arith) c.in-Err.ensures

pub loop-line-preserved : goal.loop-line-preserved
loop-line-preserved c =
    let cut = c.in-Some.ensures.steps in
    let size = rw c.loop-line.invariant.thirteen at cut.1.1 in
    record {
      thirteen = cut.0 ∙ c.loop-line.invariant.thirteen;
      reading = reading_more c.args.text.now (vec_items c.loop-line.calls) _ c.in-Some.line.now _ c.loop-line.invariant.reading cut.1.0 size c.in-Ok.call _ c.in_ok-push-in-Ok.ensures.items c.in-Ok.ensures;
    }

pub returns : goal.returns
returns c = reading_end c.args.text.now (vec_items c.loop-line.calls) _ c.loop-line.invariant.reading c.in-None.ensures.steps.1.0
