-- What the events tell, taken in one at a time: the ledger, the two counts, and of each station its stage and its slots since its order.
use Rattle.std.proofs.Common.{◌≡◌, ℕ, ◌+◌, List, [], ◌∷◌, refl, ◌∙◌, arith}
use Rattle.std.proofs.lemmas.List.Sums.{sum_by-cons}
use Rattle.std.specs.List.{fold}
use Rattle.lock.specs.declared.stage.Stage.{Stage}
use Rattle.lock.specs.declared.stage.Stage.TheVariants.{Rest}
use Rattle.runs.specs.declared.events.Event.{Event}
use Rattle.runs.specs.Told.{acceptance, finishing, accepted, finished, since_after, since_from, told_after, told_from}
use Rattle.runs.specs.Ledger.{Ledger, opened, fed, fed_all}

pub record Heard : Type 0 where
  pub ledger : Ledger
  pub accepted : ℕ
  pub finished : ℕ
  pub stage : ℕ → Stage
  pub since : ℕ → ℕ

-- nothing yet
abbrev pub silent : ℕ → Heard
silent start = record { ledger = opened start; accepted = 0; finished = 0; stage = λ _. Rest; since = λ _. 0 }

-- one event more
abbrev pub heard : Heard → Event → Heard
heard h e =
    record {
      ledger = fed h.ledger e;
      accepted = h.accepted + acceptance e;
      finished = h.finished + finishing e;
      stage = λ j. told_after j (h.stage j) e;
      since = λ j. since_after j (h.since j) e;
    }

abbrev pub heard_all : Heard → List Event → Heard
heard_all = fold heard

-- it is what the definitions over whole lists say
pub heard-ledger : (es : List Event) (h : Heard) → (heard_all h es).ledger ≡ fed_all h.ledger es
heard-ledger [] h = refl
heard-ledger (e ∷ es) h = heard-ledger es (heard h e)

pub heard-accepted : (es : List Event) (h : Heard) → (heard_all h es).accepted ≡ h.accepted + accepted es
heard-accepted [] h = omega arith
heard-accepted (e ∷ es) h = heard-accepted es (heard h e) ∙ omega (arith, sum_by-cons acceptance e es)

pub heard-finished : (es : List Event) (h : Heard) → (heard_all h es).finished ≡ h.finished + finished es
heard-finished [] h = omega arith
heard-finished (e ∷ es) h = heard-finished es (heard h e) ∙ omega (arith, sum_by-cons finishing e es)

pub heard_stage : (es : List Event) (h : Heard) (j : ℕ) → (heard_all h es).stage j ≡ told_from j (h.stage j) es
heard_stage [] h j = refl
heard_stage (e ∷ es) h j = heard_stage es (heard h e) j

pub heard-since : (es : List Event) (h : Heard) (j : ℕ) → (heard_all h es).since j ≡ since_from j (h.since j) es
heard-since [] h j = refl
heard-since (e ∷ es) h j = heard-since es (heard h e) j
