use Rattle.std.proofs.Common.{◌<◌, length, sym, arith, rules}
use Rattle.std.proofs.lemmas.Result.{err_from_is_err_and}
use Rattle.sheet.proofs.SetUpLines.{no_set_up, set_up_wrong, set_up_right}
use Rattle.sheet.proofs.read.read_set_up.Goals as goal

pub returns-in_default : goal.returns-in_default
returns-in_default c = no_set_up c.args.text.now (λ some. let short : length c.args.text.now < 1 = search rules in absurd (omega arith))

pub returns-in_default-try_from : goal.returns-in_default-try_from
returns-in_default-try_from c = no_set_up c.args.text.now (λ some. c.in_default-try_from.ensures)

pub returns-in_err-stations : goal.returns-in_err-stations
returns-in_err-stations c =
    let p = err_from_is_err_and c.from_residual.result c.from_residual.ensures.1 in
    rw (p.1, p.2) (set_up_wrong c.args.text.now c.in-Ok.kind (sym c.in-Ok.ensures) _ c.in_err-stations.ensures)

pub returns : goal.returns
returns c = rw c.size.ensures (set_up_right c.args.text.now c.in-Ok.kind (sym c.in-Ok.ensures) _ _ c.in_ok-stations.ensures)
