-- The promise, at every moment of a list of calls.
use Rattle.std.proofs.Common.{◌≡◌, ℕ, ◌+◌, ◌≤◌, min, List, [], length, Some, Ok, Option, Result, sym, subst, ap, ◌∙◌, arith}
use Rattle.std.specs.List.{count_by}
use Rattle.std.proofs.lemmas.List.{append-nil}
use Rattle.lock.specs.declared.stage.Stage.{Stage}
use Rattle.lock.specs.declared.stage.Stage.TheVariants.{Inside}
use Rattle.lock.specs.Stages.{asked}
use Rattle.lock.specs.Meaning.{Meaning, Lawful, Exactly}
use Rattle.lock.proofs.Moves.{asked_station}
use Rattle.feed.specs.Job.{ceiling}
use Rattle.feed.specs.declared.job.Job.{Job}
use Rattle.feed.specs.declared.job.Verdict.{Verdict}
use Rattle.rack.specs.Calls.{fresh_rack, kept, look_said}
use Rattle.answers.specs.declared.Refusal.{Refusal}
use Rattle.answers.specs.declared.Seen.{Seen}
use Rattle.rack.specs.declared.calls.Rack.{Rack}
use Rattle.runs.specs.declared.events.Call.{Call}
use Rattle.runs.specs.declared.events.Event.{Event}
use Rattle.runs.specs.Events.{ran, events}
use Rattle.runs.specs.Told.{accepted, finished, trying, inside, since, told, tries, works}
use Rattle.runs.specs.Ledger.{ledger}
use Rattle.runs.specs.Promise.{Ready, ShownByLook, OneInside, up_to, Lone, BoundedCost, ExactCost, Promise, Throughout}
use Rattle.runs.proofs.Stations.{lock_stage}
use Rattle.runs.proofs.LoneCosts.{cost_bounded, cost_suffices, cost_exact}
use Rattle.runs.proofs.Splits.{Parts, parts}
use Rattle.runs.proofs.Moments.{Moment, moment}
use Rattle.runs.proofs.Tales.{Tale, tale}
use Rattle.runs.proofs.Since.{since_order}
use Rattle.runs.proofs.Views.{shown-inside}
use Rattle.runs.proofs.Listed.{told_all}
use Rattle.runs.proofs.Books.{limits, shows, books_agree}

abbrev seen : Stage → ℕ → Option Verdict → Result Seen Refusal
seen x c v = Ok (record { stage = x; count = c; last = v })

-- what look and board show at a moment, and the balance of orders
module _ {L : Type 0} (m : Meaning L) (laws : Lawful m) (lock : L) (start : ℕ) (es : List Event) (r : Rack L) (M : Moment m lock start es r) where
  abbrev n : ℕ
  n = length (m.stages lock)

  shown_by_look : ShownByLook m n start es r
  shown_by_look =
      record {
        of_station = λ i least high.
            (let number = M.fixed.number in
            let most = laws.most r.lock M.fixed.sound in
            ap (look_said (kept r i)) (lock_stage m r i least (omega arith) ∙ M.stage i least high) ∙
            ap (λ c. seen (told es i) c (kept r i).last) (M.count i least high) ∙ ap (seen (told es i) (min (since es i) 65535)) (M.last i least high));
      }

  -- the stage told is the lock's
  told-inside : (i : ℕ) → 1 ≤ i → i ≤ n → told es i ≡ Inside → asked (m.stages r.lock) i ≡ Some Inside
  told-inside i least high e = M.stage i least high ∙ ap Some e

  one_inside : OneInside m n start es r
  one_inside =
      record {
        at_most_one = λ i j low_i high_i low_j high_j in_i in_j.
            laws.exclusive r.lock i j M.fixed.sound (told-inside i low_i high_i in_i) (told-inside j low_j high_j in_j);
        shown = λ i least high in_i. shows m laws lock start es r M i (told-inside i least high in_i);
        shown_only = λ i e.
            (let here = shown-inside (m.stages r.lock) i 16 e in
            let (least, within) = asked_station (m.stages r.lock) i Inside here in
            let number = M.fixed.number in
            let high : i ≤ n = omega arith in
            let stage = M.stage i least high in
            (least, high, cc));
      }

  balanced : accepted es ≡ finished es + trying n es + inside n es
  balanced =
      let all = told_all es (m.stages r.lock) n M.fixed.number M.stage in
      let b = M.balance in
      let t = ap (count_by tries) all in
      let w = ap (count_by works) all in
      omega arith

module _ {L : Type 0} (m : Meaning L) (laws : Lawful m) (lock : L) (start : ℕ) (ready : Ready m lock) (low : start ≤ ceiling) where
  -- a lone order and all that came after it
  module _ (cs : List Call) (before : List Event) (i : ℕ) (job : Job) (after : List Event) (lone : Lone (length (m.stages lock)) (events m (fresh_rack lock start) cs) before i job after []) where
    abbrev r : Rack L
    r = ran m (fresh_rack lock start) cs

    whole_tale : Tale m lock (ledger start before).board i job after r
    whole_tale = tale m laws lock start ready low cs before i job after lone

    told-now : asked (m.stages r.lock) i ≡ Some (told (up_to before i job after) i)
    told-now =
        let T = whole_tale in
        let (least, high) = T.station in
        let number = T.fixed.number in
        (moment m laws lock start ready low cs).stage i least (omega arith) ∙ ap (λ z. Some (told z i)) (lone.split ∙ append-nil (up_to before i job after))

    bounded_cost : BoundedCost m lock start before i job after
    bounded_cost =
        let T = whole_tale in
        record {
          count_is = since_order i before job after lone.no_other;
          at_most = cost_bounded m laws lock T.quiet i _ job r _ _ T.lonely;
          suffices = λ enough. (let rest = cost_suffices m laws lock T.quiet i _ job r _ _ T.lonely enough in let now = told-now in cc);
        }

    exact_cost : (enter leave : ℕ → ℕ) → Exactly m enter leave → ExactCost m lock start before i job after (enter (length (m.stages lock)) + leave (length (m.stages lock)))
    exact_cost enter leave E =
        let T = whole_tale in
        let (at_rest, all) = cost_exact m laws lock T.quiet i _ job r _ _ T.fixed T.at_rest T.station enter leave E T.lonely _ told-now in
        record { rests_then = at_rest; served_till_then = all }

  -- the same order, with what came later left out
  module _ (cs : List Call) (before : List Event) (i : ℕ) (job : Job) (after later : List Event) (lone : Lone (length (m.stages lock)) (events m (fresh_rack lock start) cs) before i job after later) where
    till : Parts m (fresh_rack lock start) cs (up_to before i job after) later
    till = parts m (up_to before i job after) later cs (fresh_rack lock start) lone.split

    lone_till : Lone (length (m.stages lock)) (events m (fresh_rack lock start) till.first) before i job after []
    lone_till = record { split = till.first-events ∙ sym (append-nil (up_to before i job after)); others_rest = lone.others_rest; no_other = lone.no_other }

  promise : (cs : List Call) → Promise m lock start (events m (fresh_rack lock start) cs) (ran m (fresh_rack lock start) cs)
  promise cs =
      let es : List Event = events m (fresh_rack lock start) cs in
      let r : Rack L = ran m (fresh_rack lock start) cs in
      let M = moment m laws lock start ready low cs in
      record {
        look = shown_by_look m laws lock start es r M;
        inside_one = one_inside m laws lock start es r M;
        books = books_agree m laws lock start es r M;
        balance = balanced m laws lock start es r M;
        limits = limits m laws lock start es r M;
        lone_bound = λ before i job after later lone. bounded_cost (till cs before i job after later lone).first before i job after (lone_till cs before i job after later lone);
        lone_exact = λ enter leave E before i job after later lone.
            exact_cost (till cs before i job after later lone).first before i job after (lone_till cs before i job after later lone) enter leave E;
      }

  pub throughout : (calls : List Call) → Throughout m lock start calls
  throughout calls made left e = promise made

-- the same after all of the calls, of what a run tells of them
pub promised : {L : Type 0} (m : Meaning L) → Lawful m → (lock : L) (start : ℕ) (calls : List Call) (es : List Event) (r : Rack L) → start ≤ ceiling →
    r ≡ ran m (fresh_rack lock start) calls → es ≡ events m (fresh_rack lock start) calls → Ready m lock → Promise m lock start es r
promised m laws lock start calls es r low same told ready =
    subst (λ z. Promise m lock start z r) (sym told)
    (subst (Promise m lock start (events m (fresh_rack lock start) calls)) (sym same) (throughout m laws lock start ready low calls calls [] (sym (append-nil calls))))
