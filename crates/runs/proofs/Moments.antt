-- A rack after some calls from its set-up on, in the words of the promise: what holds of it beside the events.
use Rattle.std.proofs.Common.{◌≡◌, ℕ, ◌+◌, ◌≤◌, min, List, length, Some, ap, ◌∙◌, subst, arith}
use Rattle.std.specs.List.{count_by}
use Rattle.lock.specs.Stages.{asked}
use Rattle.lock.specs.Meaning.{Meaning, Lawful}
use Rattle.feed.specs.Job.{ceiling}
use Rattle.feed.specs.Course.{Fit}
use Rattle.rack.specs.Calls.{fresh_rack, kept}
use Rattle.rack.specs.declared.calls.Rack.{Rack}
use Rattle.runs.specs.declared.events.Call.{Call}
use Rattle.runs.specs.declared.events.Event.{Event}
use Rattle.runs.specs.Events.{ran, events}
use Rattle.runs.specs.Told.{accepted, finished, since, told, tries, works}
use Rattle.runs.specs.Ledger.{ledger}
use Rattle.runs.specs.Promise.{Ready}
use Rattle.runs.proofs.Heard.{Heard, silent, heard_all, heard-ledger, heard-accepted, heard-finished, heard_stage, heard-since}
use Rattle.runs.proofs.Fixed.{Fixed}
use Rattle.runs.proofs.Good.{Known, Middle, Good}
use Rattle.runs.proofs.Calls.{calls-kept}
use Rattle.runs.proofs.Opened.{opens}

pub record Moment {L : Type 0} (m : Meaning L) (lock : L) (start : ℕ) (es : List Event) (r : Rack L) : Type 0 where
  pub fixed : Fixed m lock r.lock
  pub size : length r.stations ≡ 16
  pub stage : (i : ℕ) → 1 ≤ i → i ≤ length (m.stages lock) → asked (m.stages r.lock) i ≡ Some (told es i)
  pub count : (i : ℕ) → 1 ≤ i → i ≤ length (m.stages lock) → (kept r i).count ≡ min (since es i) 65535
  pub last : (i : ℕ) → 1 ≤ i → i ≤ length (m.stages lock) → (kept r i).last ≡ (ledger start es).last i
  pub fit : Fit start (length (m.stages lock)) (ledger start es).board
  pub middle : Middle (m.stages r.lock) r.stations r.board (ledger start es)
  pub balance : accepted es ≡ finished es + count_by tries (m.stages r.lock) + count_by works (m.stages r.lock)

module _ {L : Type 0} (m : Meaning L) (laws : Lawful m) (lock : L) (start : ℕ) (ready : Ready m lock) (low : start ≤ ceiling) (cs : List Call) where
  abbrev es : List Event
  es = events m (fresh_rack lock start) cs

  abbrev r : Rack L
  r = ran m (fresh_rack lock start) cs

  abbrev h : Heard
  h = heard_all (silent start) es

  good : Good m lock start h r
  good = calls-kept m laws lock start cs (silent start) (fresh_rack lock start) (opens m laws lock start ready low)

  known : (i : ℕ) → 1 ≤ i → i ≤ length (m.stages lock) → Known h i (asked (m.stages r.lock) i) (kept r i)
  known i least high = good.agree.known i (least, let number = good.fixed.number in omega arith)

  same-ledger : h.ledger ≡ ledger start es
  same-ledger = heard-ledger es (silent start)

  pub moment : Moment m lock start es r
  moment =
      record {
        fixed = good.fixed;
        size = good.agree.size;
        stage = λ i least high. (known i least high).stage_is ∙ ap Some (heard_stage es (silent start) i);
        count = λ i least high. (known i least high).count_is ∙ ap (λ z. min z 65535) (heard-since es (silent start) i);
        last = λ i least high. (known i least high).last_is ∙ ap (λ z. z.last i) same-ledger;
        fit = subst (λ z. Fit start (length (m.stages lock)) z.board) same-ledger good.agree.fit;
        middle = subst (Middle (m.stages r.lock) r.stations r.board) same-ledger good.agree.middle;
        balance =
            (let b = good.agree.balance in
            let a = heard-accepted es (silent start) in
            let f = heard-finished es (silent start) in
            omega arith);
      }
