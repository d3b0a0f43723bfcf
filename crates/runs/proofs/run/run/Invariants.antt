use Rattle.std.proofs.Common.{◌≡◌, drop, vec_items, ◌++◌}
use Rattle.runs.specs.Events.{ran, events}
use Rattle.runs.proofs.run.run.Given as goal

-- the rack after the calls left is the one after all, and the events told so far and those of the calls left are the events of all calls
abbrev pub invariant-loop-call : goal.invariant-loop-call
invariant-loop-call g l =
    let m = g.L.Lock.meaning in
    let left = drop l.call-index l.calls in
    (ran m l.rack left ≡ ran m l.initial.rack l.calls) × (vec_items l.events ++ events m l.rack left ≡ events m l.initial.rack l.calls)
