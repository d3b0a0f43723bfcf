use Rattle.std.proofs.Common.{◌≡◌, ◌+◌, ◌^◌, ◌<◌, drop}
use Rattle.columns.specs.declared.field.Content.TheVariants.{Blank}
use Rattle.columns.specs.Field.{size_of}
use Rattle.columns.proofs.Scans.{scan}
use Rattle.columns.proofs.field.read_field.Given as goal

abbrev pub invariant-loop-i : goal.invariant-loop-i
invariant-loop-i l = (scan l.form l.first Blank l.field ≡ scan l.form (l.first + l.i) l.content (drop l.i l.field)) × (size_of l.content < 10 ^ l.i)
