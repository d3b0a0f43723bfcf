-- A job with no fault may be ordered.
use Rattle.std.proofs.Common.{◌≡◌, Bool, true, false, cond, eqb, ltb, pos, negsuc, Some, None, Option, refl, arith}
use Rattle.std.proofs.lemmas.Bool.{eqb-false, ltb-false}
use Rattle.feed.specs.Job.{ceiling}
use Rattle.feed.specs.Course.{Proper}
use Rattle.feed.specs.declared.job.Job.{Job}
use Rattle.feed.specs.declared.job.Job.TheVariants.{Trim, Undo, Sign}
use Rattle.rack.specs.Calls.{fault}
use Rattle.runs.proofs.Tests.{never}

none_past : {X : Type 0} (b : Bool) (o : Option X) (x : X) → cond b (Some x) o ≡ None → (b ≡ false) × (o ≡ None)
none_past true o x e = never (cc)
none_past false o x e = (refl, e)

pub faultless : (job : Job) → fault job ≡ None → Proper job
faultless (Trim (pos n)) e =
    let (not_zero, past) = none_past (eqb n 0) _ _ e in
    let (not_above, _) = none_past (ltb 200 n) _ _ past in
    let p = eqb-false n 0 not_zero in
    (omega arith, ltb-false 200 n not_above)
faultless (Trim (negsuc n)) e =
    let (not_below, _) = none_past (ltb 199 n) _ _ e in
    let p = ltb-false 199 n not_below in
    (omega arith, omega arith)
faultless Undo e = tt
faultless (Sign (pos n)) e =
    let (_, past) = none_past (ltb n 0) _ _ e in
    let (not_above, _) = none_past (ltb ceiling n) _ _ past in
    (n, refl, ltb-false ceiling n not_above)
faultless (Sign (negsuc n)) e = never (cc)
