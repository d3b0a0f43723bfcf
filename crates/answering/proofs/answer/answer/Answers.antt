use Rattle.std.proofs.Common.{drop, vec_items, ap, ◌∙◌, subst, arith}
use Rattle.std.proofs.lemmas.List.{take_rest}
use Rattle.std.proofs.lemmas.Result.{IfOk-weaker}
use Rattle.output.specs.Output.{set_up_line}
use Rattle.answering.specs.Answer.{Run, wrong_first, refused, run}
use Rattle.answering.proofs.FirstLine.{begins}
use Rattle.answering.proofs.answer.answer.Goals as goal

pub returns-in-Err : goal.returns-in-Err
returns-in-Err c =
    IfOk-weaker c.from_slice-in-Err.result _ _
    (λ out e. wrong_first (omega arith) c.in-Err.field-0.0 c.in-Err.ensures (e ∙ c.to_line-in-Err.ensures))
    c.from_slice-in-Err.ensures.items

pub returns-in-Ok-serve : goal.returns-in-Ok-serve
returns-in-Ok-serve c =
    let text = c.args.text.now in
    let x = c.in-Ok.set_up in
    let made = c.in-Ok-serve.ensures in
    run (omega arith) x (drop 13 text) (begins text x c.in-Ok.ensures) made.accepted (subst (λ later. Run x later (vec_items c.in-Ok-serve.out)) (take_rest text 13) made.ran)

pub returns-in-Err-Refused : goal.returns-in-Err-Refused
returns-in-Err-Refused c =
    let text = c.args.text.now in
    let x = c.in-Ok.set_up in
    let why = rw c.in-Err-Refused.field-0-is at c.in-Err-Refused.ensures.refused in
    IfOk-weaker c.from_slice-in-Err-Refused.result _ _
    (λ out e. refused (omega arith) x (drop 13 text) (begins text x c.in-Ok.ensures) c.in-Err-Refused.refusal why (e ∙ c.line_of_set_up.ensures ∙ ap (set_up_line x) c.number.ensures))
    c.from_slice-in-Err-Refused.ensures.items
