use Rattle.std.proofs.lemmas.Result.{err_from_is_err_and}
use Rattle.columns.proofs.Fields.{station_wrong, value_wrong, end_wrong, all_right}
use Rattle.columns.proofs.read.read_fields.Goals as goal

pub returns-in_err-station : goal.returns-in_err-station
returns-in_err-station c =
    let p = err_from_is_err_and c.from_residual.result c.from_residual.ensures.1 in
    rw (p.1, p.2) (station_wrong c.args.form c.filled.result c.args.rest.now c.filled.ensures _ c.in_err-station.ensures)

pub returns-in_err-value : goal.returns-in_err-value
returns-in_err-value c =
    let p = err_from_is_err_and c.from_residual-in_err-value.result c.from_residual-in_err-value.ensures.1 in
    rw (p.1, p.2) (value_wrong c.args.form c.filled.result c.args.rest.now c.filled.ensures _ c.in_ok-station.ensures _ c.in_err-value.ensures)

pub returns-then-end-ne10 : goal.returns-then-end-ne10
returns-then-end-ne10 c =
    end_wrong c.args.form c.filled.result c.args.rest.now c.filled.ensures _ _ c.in_ok-station.ensures c.in_ok-value.ensures c.if-end-ne10.true

pub returns : goal.returns
returns c = rw c.size.ensures (all_right c.args.form c.filled.result c.args.rest.now c.filled.ensures _ _ c.in_ok-station.ensures c.in_ok-value.ensures c.if-end-ne10.false)
