use Rattle.std.proofs.Common.{vec_items, subst}
use Rattle.setpoint_c.specs.Outcomes.{Placed}
use Rattle.setpoint_c.specs.Left.{answered}
use Rattle.setpoint_c.proofs.answer_into.Goals as goal

pub returns-in-Ok : goal.returns-in-Ok
returns-in-Ok c =
    answered (vec_items c.in-Ok.output) c.in-Ok.ensures
    (subst (λ output. Placed c.place.result output c.args.buffer.now c.place.new.buffer c.place.new.output_length) c.deref.ensures.value c.place.ensures)
