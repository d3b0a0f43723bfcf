use Rattle.std.proofs.Common.{◌≡◌, ◌++◌, length, drop}
use Rattle.columns.specs.Field.{written}
use Rattle.columns.proofs.write.columns_of.Given as goal

abbrev pub invariant-loop-i : goal.invariant-loop-i
invariant-loop-i g l = record {
  size : length l.columns ≡ g.row.N;
  so_far : written g.row.N l.fn.content ≡ written l.i l.front ++ drop l.i l.columns;
}
