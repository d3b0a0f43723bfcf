use Rattle.std.proofs.Common.{◌≤◌, arith}
use Rattle.algorithm.proofs.PlaceLock+P+P+Registers.new.Goals as goal

pub returns-clause-fresh : goal.returns-clause-fresh
returns-clause-fresh g c =
    let least : 1 ≤ c.args.n = grind arith in
    let most : c.args.n ≤ 16 = grind arith in
    rw (c.registers.ensures, c.idle.ensures) (least, most, g.met.P.Algorithm.starts c.args.n least most)
