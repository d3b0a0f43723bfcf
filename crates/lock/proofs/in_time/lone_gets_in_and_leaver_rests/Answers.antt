use Rattle.lock.proofs.InTime.{lone_gets_in, leaver_rests}
use Rattle.lock.proofs.in_time.lone_gets_in_and_leaver_rests.Goals as goal

pub returns : goal.returns
returns g c =
    let m = g.L.Lock.meaning in
    let laws = g.met.L.Lock.lawful in
    record { enters = lone_gets_in m laws; leaves = leaver_rests m laws }
