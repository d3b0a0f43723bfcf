-- What an accepted slot tells of its station, and that it tells nothing of any other.
use Rattle.std.proofs.Common.{◌≡◌, ℕ, ◌+◌, min, Some, None, Ok, Option, sym, refl, ap, ◌∙◌, arith}
use Rattle.lock.specs.declared.stage.Stage.{Stage}
use Rattle.lock.specs.declared.stage.Stage.TheVariants.{Trying}
use Rattle.feed.specs.declared.job.Job.{Job}
use Rattle.rack.specs.Calls.{counted}
use Rattle.answers.specs.declared.Served.{Served}
use Rattle.answers.specs.declared.Served.TheVariants.{StillTrying, NowInside, Working, Ended, StillLeaving, NowResting}
use Rattle.rack.specs.declared.calls.Station.{Station}
use Rattle.runs.specs.declared.events.Event.TheVariants.{Slotted}
use Rattle.runs.specs.Told.{tells}
use Rattle.runs.specs.Ledger.{Ledger, do_whole, served}
use Rattle.runs.proofs.Tests.{cond_at, cond_off}
use Rattle.runs.proofs.Heard.{Heard, heard}
use Rattle.runs.proofs.Good.{Waiting, Known}
use Rattle.runs.proofs.Changes.{Unheard}

-- of another station the ledger keeps the job and the verdict
module _ (g : Ledger) (i j : ℕ) (ne : j ≡ i → ⊥) where
  done_others : (o : Option Job) → ((do_whole g i o).noted j ≡ g.noted j) × ((do_whole g i o).last j ≡ g.last j)
  done_others None = (refl, refl)
  done_others (Some job) = (refl, cond_off j i _ _ ne)

  served_others : (a : Served) → ((served g i a).noted j ≡ g.noted j) × ((served g i a).last j ≡ g.last j)
  served_others StillTrying = (refl, refl)
  served_others NowInside = (refl, refl)
  served_others Working = (refl, refl)
  served_others (Ended v) = done_others (g.noted i)
  served_others StillLeaving = (refl, refl)
  served_others NowResting = (refl, refl)

module _ (h : Heard) (i : ℕ) (a : Served) where
  pub slot_others : (j : ℕ) → (j ≡ i → ⊥) → Unheard h (heard h (Slotted i (Ok a))) j
  slot_others j ne =
      let (same_noted, same_last) = served_others h.ledger i j ne a in
      record {
        stage = cond_off i j (tells a) (h.stage j) (λ d. ne (sym d));
        since = cond_off i j (h.since j + 1) (h.since j) (λ d. ne (sym d));
        noted = same_noted;
        last = same_last;
      }

  pub slot_known : {stage : Option Stage} {old new : Station} → Known h i stage old → new.count ≡ counted old.count → new.last ≡ (served h.ledger i a).last i →
      (tells a ≡ Trying → Waiting ((served h.ledger i a).noted i) new.task) → Known (heard h (Slotted i (Ok a))) i (Some (tells a)) new
  slot_known {stage} {old} {new} K count last waiting =
      let was = K.count_is in
      let more : new.count ≡ min (h.since i + 1) 65535 = omega arith in
      record {
        stage_is = ap Some (sym (cond_at i (tells a) (h.stage i)));
        count_is = more ∙ ap (λ z. min z 65535) (sym (cond_at i (h.since i + 1) (h.since i)));
        last_is = last;
        waiting = λ t. waiting (sym (cond_at i (tells a) (h.stage i)) ∙ t);
      }
