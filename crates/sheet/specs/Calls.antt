-- The calls of a sheet as calls on a rack.
use Rattle.runs.specs.declared.events.Call.{Call}
use Rattle.runs.specs.declared.events.Call.TheVariants as call
use Rattle.sheet.specs.declared.line.Call.{Call as Line}
use Rattle.sheet.specs.declared.line.Call.TheVariants.{Order, Slot}

-- the call that a line asks for
abbrev pub to_call : Line → Call
to_call (Order station job) = call.Order station job
to_call (Slot station) = call.Slot station
