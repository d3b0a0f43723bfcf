use Rattle.std.proofs.Common.{rules}
use Rattle.setpoint_c.proofs.Lengths.{bound_suffices}
use Rattle.setpoint_c.proofs.setpoint_output_bound.Goals as goal

pub returns : goal.returns
returns c = record { value = search rules; suffices = bound_suffices }
