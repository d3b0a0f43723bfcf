use Rattle.algorithm.proofs.Stations.{found_place}
use Rattle.algorithm.proofs.PlaceLock+P+P+Registers.place.Goals as goal

pub returns : goal.returns
returns g c = let e = found_place g.P.Algorithm.plan c.args.self.now c.args.station in cc
