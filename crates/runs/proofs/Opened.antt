-- A rack that is just set up keeps the invariant, with nothing heard.
use Rattle.std.proofs.Common.{◌≡◌, ℕ, ◌-◌, ◌≤◌, List, length, refl, ap, arith}
use Rattle.std.proofs.lemmas.List.{get_or-replicate}
use Rattle.lock.specs.declared.stage.Stage.{Stage}
use Rattle.lock.specs.declared.stage.Stage.TheVariants.{Inside}
use Rattle.lock.specs.Meaning.{Meaning, Lawful}
use Rattle.lock.proofs.Moves.{asked_station}
use Rattle.feed.specs.Job.{ceiling}
use Rattle.feed.proofs.Fits.{fit_fresh}
use Rattle.rack.specs.Calls.{fresh_rack, kept, idle}
use Rattle.runs.specs.Told.{tries, works}
use Rattle.runs.specs.Promise.{Ready}
use Rattle.runs.proofs.Tests.{never}
use Rattle.runs.proofs.Tallies.{tally_all_rest}
use Rattle.runs.proofs.Heard.{silent}
use Rattle.runs.proofs.Fixed.{fixed_first}
use Rattle.runs.proofs.Good.{nobody, Good}

pub opens : {L : Type 0} (m : Meaning L) (laws : Lawful m) (lock : L) (start : ℕ) → Ready m lock → start ≤ ceiling → Good m lock start (silent start) (fresh_rack lock start)
opens m laws lock start R low =
    let s : List Stage = m.stages lock in
    record {
      fixed = fixed_first m lock R.sound;
      agree = record {
        size = refl;
        fit = fit_fresh start (length s) low;
        known = λ j (least, high).
            (let most = laws.most lock R.sound in
            let new : kept (fresh_rack lock start) j ≡ idle = get_or-replicate 16 (j - 1) idle idle (omega arith) in
            record {
              stage_is = R.at_rest j (least, high);
              count_is = ap (λ z. z.count) new;
              last_is = ap (λ z. z.last) new;
              waiting = λ t. never (cc);
            });
        middle = nobody (λ i in_i. let rest = R.at_rest i (asked_station s i Inside in_i) in never (cc)) refl;
        balance = (let t = tally_all_rest tries refl s R.at_rest in let w = tally_all_rest works refl s R.at_rest in omega arith);
      };
    }
