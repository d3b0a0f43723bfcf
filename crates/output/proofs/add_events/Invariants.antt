use Rattle.std.proofs.Common.{◌≡◌, ◌++◌, take, vec_items}
use Rattle.std.specs.List.{flat_map}
use Rattle.output.specs.Output.{event_line}
use Rattle.output.proofs.add_events.Given as goal

abbrev pub invariant-loop-event : goal.invariant-loop-event
invariant-loop-event l = vec_items l.out ≡ vec_items l.initial.out ++ flat_map event_line (take l.event-index l.events)
