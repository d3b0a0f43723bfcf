-- The accesses of a job in a row do the job whole, on every board between two jobs.
use Rattle.std.proofs.Common.{ℕ, ◌≤◌, List, ℤ, sym, subst}
use Rattle.feed.specs.Board.{made}
use Rattle.feed.specs.Whole.{whole}
use Rattle.feed.specs.Course.{Settled, Fit, Proper, Course}
use Rattle.feed.specs.declared.board.Board.{Board}
use Rattle.feed.specs.declared.job.Job.{Job}
use Rattle.feed.specs.declared.job.Job.TheVariants.{Trim, Undo, Sign}
use Rattle.feed.proofs.Signs.{sign_course}
use Rattle.feed.proofs.Undos.{undo_course}
use Rattle.feed.proofs.Trims.{trim_course}

settled_course : {start n i a k w : ℕ} {es : List ℤ} (job : Job) → Settled start n a k w es → i ≤ n → Proper job →
    Course start n i (made a k w es) job (whole i (made a k w es) job)
settled_course {start} {n} {i} {a} {k} (Trim p) S l (least, most) = trim_course i S p most
settled_course {start} {n} {i} {a} {k} Undo S l h = undo_course i k S
settled_course (Sign v) S l h = sign_course S l v

pub course : (start n i : ℕ) (b : Board) (job : Job) → Fit start n b → i ≤ n → Proper job → Course start n i b job (whole i b job)
course start n i b job f l h =
    subst (λ x. Course start n i x job (whole i x job)) (sym f.is) (settled_course job f.settled l h)
