use Rattle.std.proofs.Common.{rules}
use Rattle.columns.proofs.Written.{shown-signed}
use Rattle.columns.proofs.write.write_signed.Goals as goal

pub returns : goal.returns
returns c = search (rules, shown-signed)
