use Rattle.sheet.proofs.OneReading.{one_reading}
use Rattle.sheet.proofs.calls.text_is_read_in_one_way.Goals as goal

pub returns : goal.returns
returns c = one_reading
