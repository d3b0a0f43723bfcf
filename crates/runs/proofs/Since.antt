-- The slots of a station since its last order: with no order accepted after that one, all those served.
use Rattle.std.proofs.Common.{◌≡◌, ℕ, ◌+◌, cond, eqb, List, [], ◌∷◌, Ok, Err, ap, ◌∙◌, arith}
use Rattle.std.specs.List.{sum_by}
use Rattle.std.proofs.lemmas.List.Sums.{fold-append, sum_by-cons}
use Rattle.std.proofs.lemmas.Bool.Decides.{nat_tests}
use Rattle.feed.specs.declared.job.Job.{Job}
use Rattle.runs.specs.declared.events.Event.{Event}
use Rattle.runs.specs.declared.events.Event.TheVariants.{Ordered, Slotted, Looked, Shown}
use Rattle.runs.specs.Told.{acceptance, accepted, serving, since_after, since_from, since}
use Rattle.runs.specs.Promise.{up_to}
use Rattle.runs.proofs.Tests.{cond_at}

module _ (i : ℕ) where
  one_more : (j c : ℕ) → cond (eqb j i) (c + 1) c ≡ c + cond (eqb j i) 1 0
  one_more j c = grind (arith, nat_tests)

  since_more : (c : ℕ) (e : Event) → acceptance e ≡ 0 → since_after i c e ≡ c + serving i e
  since_more c (Ordered j job (Ok x)) h = absurd (omega arith)
  since_more c (Ordered j job (Err f)) h = omega arith
  since_more c (Slotted j (Ok a)) h = one_more j c
  since_more c (Slotted j (Err f)) h = omega arith
  since_more c (Looked j a) h = omega arith
  since_more c (Shown v) h = omega arith

  since-served : (es : List Event) (c : ℕ) → accepted es ≡ 0 → since_from i c es ≡ c + sum_by (serving i) es
  since-served [] c h = omega arith
  since-served (e ∷ es) c h =
      let first = sum_by-cons acceptance e es in
      let more = since_more c e (omega arith) in
      since-served es (since_after i c e) (omega arith) ∙ omega (arith, sum_by-cons (serving i) e es)

  pub since_order : (before : List Event) (job : Job) (after : List Event) → accepted after ≡ 0 → since (up_to before i job after) i ≡ sum_by (serving i) after
  since_order before job after h =
      fold-append (since_after i) 0 before (Ordered i job (Ok tt) ∷ after) ∙ ap (λ z. since_from i z after) (cond_at i 0 (since before i)) ∙ since-served after 0 h ∙ omega arith
