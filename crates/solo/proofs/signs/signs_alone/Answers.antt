use Rattle.std.proofs.lemmas.Result.{IfOk-weaker}
use Rattle.solo.proofs.FourSlots.{four_slots}
use Rattle.solo.proofs.signs.signs_alone.Goals as goal

pub returns-clause-four : goal.returns-clause-four
returns-clause-four c =
    let fresh = c.new.ensures.fresh in
    IfOk-weaker c.run.result _ _ (λ d keeps. four_slots (keeps record { sound = fresh.sound; at_rest = fresh.resting })) c.run.ensures.keeps
