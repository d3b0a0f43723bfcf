use Rattle.std.proofs.Common.{◌≡◌, ◌∙◌, arith, rules}
use Rattle.columns.specs.declared.field.Content.TheVariants.{Number}
use Rattle.columns.specs.Field.{written}
use Rattle.columns.proofs.Written.{line_written}
use Rattle.columns.proofs.write.write_line.Goals as goal

pub returns : goal.returns
returns c =
    let station : c.copy_from_slice.new.self ≡ written 3 (Number c.args.station) = search rules in
    let value : c.copy_from_slice-2.new.self ≡ written 8 c.args.value = c.copy_from_slice-2.ensures.after ∙ c.columns_of-2.ensures in
    rw (station, value) (line_written c.args.letter c.args.station c.args.value (omega arith) (search rules))
