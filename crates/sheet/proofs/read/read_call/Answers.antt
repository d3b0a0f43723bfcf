use Rattle.std.proofs.Common.{◌<◌, length, sym, refl, ◌∙◌, inl, inr, arith, rules}
use Rattle.std.proofs.lemmas.Result.{err_from_is_err_and}
use Rattle.feed.specs.declared.job.Job.TheVariants.{Trim, Sign}
use Rattle.sheet.proofs.CallLines.{no_call, call_wrong, call_right, from_bits}
use Rattle.sheet.proofs.read.read_call.Goals as goal

pub returns-in_default : goal.returns-in_default
returns-in_default c = no_call c.args.text.now (λ some. let short : length c.args.text.now < 1 = search rules in absurd (omega arith))

pub returns-in_default-from : goal.returns-in_default-from
returns-in_default-from c = no_call c.args.text.now (λ some. let e = c.from.ensures in (λ h. omega arith, λ h. omega arith, λ h. omega arith, λ h. omega arith))

pub returns-in_err-station-in-T : goal.returns-in_err-station-in-T
returns-in_err-station-in-T c =
    let p = err_from_is_err_and c.from_residual.result c.from_residual.ensures.1 in
    rw (p.1, p.2) (call_wrong c.args.text.now 84 (sym c.in-T.is ∙ c.from.ensures) (inl refl) _ c.in_err-station-in-T.ensures)

pub returns-in_err-station-in-U : goal.returns-in_err-station-in-U
returns-in_err-station-in-U c =
    let p = err_from_is_err_and c.from_residual-in_err-station-in-U.result c.from_residual-in_err-station-in-U.ensures.1 in
    rw (p.1, p.2) (call_wrong c.args.text.now 85 (sym c.in-U.is ∙ c.from.ensures) (inr (inr (inl refl))) _ c.in_err-station-in-U.ensures)

pub returns-in_err-station-in-G : goal.returns-in_err-station-in-G
returns-in_err-station-in-G c =
    let p = err_from_is_err_and c.from_residual-in_err-station-in-G.result c.from_residual-in_err-station-in-G.ensures.1 in
    rw (p.1, p.2) (call_wrong c.args.text.now 71 (sym c.in-G.is ∙ c.from.ensures) (inr (inl refl)) _ c.in_err-station-in-G.ensures)

pub returns-in_err-station-in-S : goal.returns-in_err-station-in-S
returns-in_err-station-in-S c =
    let p = err_from_is_err_and c.from_residual-in_err-station-in-S.result c.from_residual-in_err-station-in-S.ensures.1 in
    rw (p.1, p.2) (call_wrong c.args.text.now 83 (sym c.in-S.is ∙ c.from.ensures) (inr (inr (inr refl))) _ c.in_err-station-in-S.ensures)

pub returns-in_ok-station-in-T : goal.returns-in_ok-station-in-T
returns-in_ok-station-in-T c =
    from_bits c.args.text.now Trim _ _ _ c.number_of.type_inv c.number_of.ensures (call_right c.args.text.now 84 (sym c.in-T.is ∙ c.from.ensures) (inl refl) _ _ c.in_ok-station-in-T.ensures)

pub returns-in_ok-station-in-U : goal.returns-in_ok-station-in-U
returns-in_ok-station-in-U c =
    call_right c.args.text.now 85 (sym c.in-U.is ∙ c.from.ensures) (inr (inr (inl refl))) _ _ c.in_ok-station-in-U.ensures

pub returns-in_ok-station-in-G : goal.returns-in_ok-station-in-G
returns-in_ok-station-in-G c =
    from_bits c.args.text.now Sign _ _ _ c.number_of-in-G.type_inv c.number_of-in-G.ensures (call_right c.args.text.now 71 (sym c.in-G.is ∙ c.from.ensures) (inr (inl refl)) _ _ c.in_ok-station-in-G.ensures)

pub returns-in_ok-station-in-S : goal.returns-in_ok-station-in-S
returns-in_ok-station-in-S c =
    call_right c.args.text.now 83 (sym c.in-S.is ∙ c.from.ensures) (inr (inr (inr refl))) _ _ c.in_ok-station-in-S.ensures
