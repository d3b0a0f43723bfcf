use Rattle.kinds.specs.declared.set_up.SetUp.{SetUp}
use Rattle.sheet.specs.declared.line.Call.{Call}
use Rattle.sheet.specs.Line.{set_up_text, call_text, FitsSetUp, FitsCall}
use Rattle.sheet.proofs.Lines.{one}
use Rattle.sheet.proofs.CallLines.{calls}
use Rattle.sheet.proofs.SetUpLines.{set_ups}
use Rattle.sheet.proofs.read.legal_line_says_one_thing.Goals as goal

pub returns : goal.returns
returns c = record { first = one SetUp set_up_text FitsSetUp set_ups; later = one Call call_text FitsCall calls }
