-- What the promise says of a run in which the only station signs.
use Rattle.std.proofs.Common.{List, [], arith}
use Rattle.rack.specs.declared.calls.Rack.{Rack}
use Rattle.runs.specs.declared.events.Event.{Event}
use Rattle.runs.specs.Promise.{Promise}
use Rattle.solo.specs.Meaning.{solo_meaning}
use Rattle.solo.specs.Signs.{job, FourSlots}
use Rattle.solo.specs.declared.Solo.{Solo}
use Rattle.solo.proofs.Exact.{exact}

pub four_slots : {lock : Solo} {es : List Event} {r : Rack Solo} → Promise solo_meaning lock 200000 es r → FourSlots es
four_slots P after later split none =
    let E =
    P.lone_exact (λ _. 1) (λ _. 1) exact [] 1 job after later
    record { split = split; others_rest = λ j low high ne. absurd (ne (omega arith)); no_other = none }
    in
    (E.rests_then, E.served_till_then)
