use Rattle.std.proofs.Common.{sym, ◌∙◌, add_assoc, arith}
use Rattle.std.proofs.lemmas.Result.{err_from_is_err_and}
use Rattle.columns.proofs.Scans.{scan_more, scan_stop, scan_end, under_top, size_more}
use Rattle.columns.proofs.Columns.{field_read}
use Rattle.columns.proofs.field.read_field.Goals as goal

pub after-requires : goal.after-requires
after-requires c = under_top _ c.loop-i.i c.loop-i.invariant.1 (omega (arith, c.requires.few))

pub returns-in_err-content : goal.returns-in_err-content
returns-in_err-content c =
    let p = err_from_is_err_and c.from_residual.result c.from_residual.ensures.1 in
    let none = c.in_err-content.ensures.ok_part in
    rw (p.1, p.2)
    (field_read c.args.form c.args.first c.args.field.now _ c.requires.some c.requires.few
    (c.loop-i.invariant.0 ∙ scan_stop c.args.form _ c.loop-i.content c.args.field.now c.loop-i.i (omega arith) (sym none ∙ c.after.ensures) ∙ sym (rw none at c.in_err-content.ensures.value)))

pub loop-i-preserved : goal.loop-i-preserved
loop-i-preserved c =
    let t = c.in_ok-content.content in
    let some = sym c.in_ok-content.ensures.ok_part ∙ c.after.ensures in (
      rw (← add_assoc) (c.loop-i.invariant.0 ∙ scan_more c.args.form _ c.loop-i.content c.args.field.now c.loop-i.i (omega arith) t some),
      size_more c.args.form _ c.loop-i.content t _ c.loop-i.i c.loop-i.invariant.1 some,
    )

pub returns : goal.returns
returns c = field_read c.args.form c.args.first c.args.field.now _ c.requires.some c.requires.few (c.loop-i.invariant.0 ∙ scan_end c.args.form _ c.loop-i.content c.args.field.now c.loop-i.i (omega arith))
