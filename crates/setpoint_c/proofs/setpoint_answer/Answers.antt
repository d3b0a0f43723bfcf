use Rattle.std.proofs.Common.{sym, ◌∙◌}
use Rattle.setpoint_c.proofs.Rooms.{not_small}
use Rattle.setpoint_c.proofs.setpoint_answer.Goals as goal

pub returns : goal.returns
returns c =
    let left = c.answer_into.ensures in
    let number = c.number.ensures in
    record {
      told = record { outcome = c.answer_into.result; numbered = number; left = left };
      room = λ room small. not_small c.args.sheet.now c.args.buffer.now c.answer_into.new.buffer c.answer_into.new.output_length room c.answer_into.result left (sym number ∙ small);
    }
