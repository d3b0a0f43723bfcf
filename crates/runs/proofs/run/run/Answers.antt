-- A run does what the definitions say, call by call, and so keeps what they promise.
use Rattle.std.proofs.Common.{arith}
use Rattle.std.proofs.lemmas.Grind.{common_steps}
use Rattle.runs.proofs.Promises.{promised, throughout}
use Rattle.runs.proofs.run.run.Goals as goal

pub returns-clause-keeps : goal.returns-clause-keeps
returns-clause-keeps g c =
    promised g.L.Lock.meaning g.met.L.Lock.lawful c.args.lock c.args.start c.args.calls.now c.loop-call.events.items c.loop-call.rack (grind (arith, common_steps))
    (grind (arith, common_steps)) (grind (arith, common_steps))

pub returns-clause-throughout : goal.returns-clause-throughout
returns-clause-throughout g c = λ ready.
    throughout g.L.Lock.meaning g.met.L.Lock.lawful c.args.lock c.args.start ready (grind (arith, common_steps)) c.args.calls.now
