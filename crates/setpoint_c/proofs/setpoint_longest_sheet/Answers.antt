use Rattle.std.proofs.Common.{refl}
use Rattle.setpoint_c.proofs.Longest.{refused_above}
use Rattle.setpoint_c.proofs.setpoint_longest_sheet.Goals as goal

pub returns : goal.returns
returns c = record { value = refl; exact = refused_above }
