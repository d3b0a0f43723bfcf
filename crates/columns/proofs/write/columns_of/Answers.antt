use Rattle.std.proofs.Common.{arith, length-set}
use Rattle.columns.proofs.Written.{column_written, all_written}
use Rattle.columns.proofs.write.columns_of.Goals as goal

pub loop-i-preserved : goal.loop-i-preserved
loop-i-preserved g c = record {
  size = simp length-set c.loop-i.invariant.size;
  so_far = rw c.before-in-loop-i.ensures (column_written _ _ _ _ c.loop-i-test.true (omega arith) c.loop-i.invariant.so_far);
}

pub returns : goal.returns
returns g c = all_written _ _ _ _ c.loop-i-test.false c.loop-i.invariant.so_far
