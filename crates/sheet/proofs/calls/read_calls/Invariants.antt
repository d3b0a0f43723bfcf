use Rattle.std.proofs.Common.{◌≡◌, vec_items}
use Rattle.std.specs.Slice.Iter.{chunks_rest, chunks_size}
use Rattle.sheet.proofs.Readings.{Reading}
use Rattle.sheet.proofs.calls.read_calls.Given as goal

abbrev pub invariant-loop-line : goal.invariant-loop-line
invariant-loop-line l = record {
  thirteen : chunks_size l.line-iterator ≡ 13;
  reading : Reading l.text (vec_items l.calls) (chunks_rest l.line-iterator);
}
