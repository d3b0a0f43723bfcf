-- An order that is accepted keeps the invariant.
use Rattle.std.proofs.Common.{◌≡◌, ℕ, ◌≤◌, min, Some, None, Ok, sym, refl, ap}
use Rattle.lock.specs.declared.stage.Stage.TheVariants.{Rest, Trying}
use Rattle.lock.specs.Stages.{asked, resting}
use Rattle.lock.specs.Meaning.{Meaning, Lawful}
use Rattle.lock.proofs.Moves.{asked_station}
use Rattle.feed.specs.declared.job.Job.{Job}
use Rattle.rack.specs.Calls.{fault, ordered_rack}
use Rattle.rack.specs.declared.calls.Rack.{Rack}
use Rattle.runs.specs.declared.events.Event.TheVariants.{Ordered}
use Rattle.runs.proofs.Tests.{never, cond_at, cond_off}
use Rattle.runs.proofs.Faults.{faultless}
use Rattle.runs.proofs.Heard.{Heard, heard}
use Rattle.runs.proofs.Fixed.{fixed_more}
use Rattle.runs.proofs.Good.{Good}
use Rattle.runs.proofs.Middles.{middle_aside}
use Rattle.runs.proofs.Changes.{Unheard, altered}

module _ (h : Heard) (i : ℕ) (job : Job) where
  order_others : (j : ℕ) → (j ≡ i → ⊥) → Unheard h (heard h (Ordered i job (Ok tt))) j
  order_others j ne =
      record {
        stage = cond_off i j Trying (h.stage j) (λ d. ne (sym d));
        since = cond_off i j 0 (h.since j) (λ d. ne (sym d));
        noted = cond_off j i (Some job) (h.ledger.noted j) ne;
        last = refl;
      }

module _ {L : Type 0} (m : Meaning L) (laws : Lawful m) (lock : L) (start : ℕ) (h : Heard) (r : Rack L) (good : Good m lock start h r) (i : ℕ) (most : i ≤ 16) where
  pub order_accepted : (job : Job) → asked (m.stages r.lock) i ≡ Some Rest → fault job ≡ None → Good m lock start (heard h (Ordered i job (Ok tt))) (ordered_rack m r i job)
  order_accepted job here proper =
      let moves = laws.begins r.lock i good.fixed.sound (ap resting here) in
      let last_is = (good.agree.known i (asked_station (m.stages r.lock) i Rest here)).last_is in
      altered m lock start h r i (Ordered i job (Ok tt)) good
      record {
        here = here;
        most = most;
        fixed = fixed_more m lock good.fixed (laws.begun_kept r.lock i good.fixed.sound) i Trying moves;
        moves = moves;
        others = order_others h i job;
        known = record {
          stage_is = ap Some (sym (cond_at i Trying (h.stage i)));
          count_is = ap (λ z. min z 65535) (sym (cond_at i 0 (h.since i)));
          last_is = last_is;
          waiting = λ t. record { job = job; is_noted = cond_at i (Some job) (h.ledger.noted i); proper = faultless job proper; at_start = refl };
        };
        fit = good.agree.fit;
        middle = middle_aside (m.stages r.lock) i Rest Trying here _ (λ c. never (cc)) (λ c. never (cc)) refl (λ j ne. cond_off j i _ _ ne) good.agree.middle;
        pays = refl;
      }
