-- A call that alters one station keeps the invariant: what is to be shown of that station, and that the others stay as they were.
use Rattle.std.proofs.Common.{◌≡◌, ℕ, ◌+◌, ◌-◌, ◌≤◌, min, List, length, get_or, Some, Option, sym, ap, ◌∙◌, subst, inl, inr, arith}
use Rattle.std.proofs.lemmas.Bool.{cases_eq}
use Rattle.std.proofs.lemmas.List.{length-set}
use Rattle.lock.specs.declared.stage.Stage.{Stage}
use Rattle.lock.specs.Stages.{asked, moved}
use Rattle.lock.specs.Meaning.{Meaning}
use Rattle.lock.proofs.Moves.{asked-moved, asked_others, length_moved, asked_station}
use Rattle.feed.specs.Course.{Fit}
use Rattle.feed.specs.declared.board.Board.{Board}
use Rattle.rack.specs.Calls.{rack_of, with_kept, idle}
use Rattle.rack.specs.declared.calls.Station.{Station}
use Rattle.rack.specs.declared.calls.Rack.{Rack}
use Rattle.runs.specs.declared.events.Event.{Event}
use Rattle.runs.specs.Told.{acceptance, finishing, tries, works}
use Rattle.runs.proofs.Stations.{kept_at, kept_off}
use Rattle.runs.proofs.Tallies.{bit, tally-moved}
use Rattle.runs.proofs.Heard.{Heard, heard}
use Rattle.runs.proofs.Fixed.{Fixed}
use Rattle.runs.proofs.Good.{Known, Middle, Agree, Good}

-- nothing new was heard of station j
pub record Unheard (h h' : Heard) (j : ℕ) : Type 0 where
  pub stage : h'.stage j ≡ h.stage j
  pub since : h'.since j ≡ h.since j
  pub noted : h'.ledger.noted j ≡ h.ledger.noted j
  pub last : h'.ledger.last j ≡ h.ledger.last j

known_still : {h h' : Heard} {j : ℕ} {x x' : Option Stage} {k k' : Station} → Unheard h h' j → x' ≡ x → k' ≡ k → Known h j x k → Known h' j x' k'
known_still U same_stage same_kept K =
    record {
      stage_is = same_stage ∙ K.stage_is ∙ ap Some (sym U.stage);
      count_is = ap (λ z. z.count) same_kept ∙ K.count_is ∙ ap (λ z. min z 65535) (sym U.since);
      last_is = ap (λ z. z.last) same_kept ∙ K.last_is ∙ sym U.last;
      waiting = λ t.
          (let W = K.waiting (sym U.stage ∙ t) in
          record { job = W.job; is_noted = U.noted ∙ W.is_noted; proper = W.proper; at_start = ap (λ z. z.task) same_kept ∙ W.at_start });
    }

-- an event takes station i from one stage to another; it leaves a new lock, a new part kept of the station, and a new board
module _ {L : Type 0} (m : Meaning L) (lock : L) (start : ℕ) (h : Heard) (r : Rack L) (i : ℕ) (e : Event) where
  pub record Change (was is : Stage) (l : L) (new : Station) (now : Board) : Type 0 where
    pub here : asked (m.stages r.lock) i ≡ Some was
    pub most : i ≤ 16
    pub fixed : Fixed m lock l
    pub moves : m.stages l ≡ moved (m.stages r.lock) i is
    pub others : (j : ℕ) → (j ≡ i → ⊥) → Unheard h (heard h e) j
    pub known : Known (heard h e) i (Some is) new
    pub fit : Fit start (length (m.stages lock)) (heard h e).ledger.board
    pub middle : Middle (moved (m.stages r.lock) i is) (with_kept r i new) now (heard h e).ledger
    -- an order accepted tries, and a station inside no more has finished
    pub pays : acceptance e + bit (tries was) + bit (works was) ≡ finishing e + bit (tries is) + bit (works is)

  module _ (good : Good m lock start h r) {was is : Stage} {l : L} {new : Station} {now : Board} (C : Change was is l new now) where
    abbrev s : List Stage
    s = m.stages r.lock

    abbrev KnownAfter : ℕ → Type 0
    KnownAfter j = Known (heard h e) j (asked (moved s i is) j) (get_or (with_kept r i new) (j - 1) idle)

    least : 1 ≤ i
    least = (asked_station s i was C.here).0

    known_here : KnownAfter i
    known_here =
        subst (Known (heard h e) i (asked (moved s i is) i)) (sym (kept_at r.stations i new least good.agree.size C.most))
        (subst (λ z. Known (heard h e) i z new) (sym (asked-moved s i is (asked_station s i was C.here))) C.known)

    known_there : (j : ℕ) → (j ≡ i → ⊥) → 1 ≤ j → j ≤ length (moved s i is) → KnownAfter j
    known_there j ne low high =
        known_still (C.others j ne) (asked_others s i j is ne) (kept_off r.stations i new least j low ne)
        (good.agree.known j (low, let same = length_moved s i is in omega arith))

    agree_after : Agree start (length (m.stages lock)) (heard h e) (moved s i is) (with_kept r i new) now
    agree_after =
        record {
          size = length-set r.stations (i - 1) new ∙ good.agree.size;
          fit = C.fit;
          known = λ j (low, high). elim (cases_eq j i) [ inl d ↦ subst KnownAfter (sym d) known_here | inr ne ↦ known_there j ne low high ];
          middle = C.middle;
          balance =
              (let before = good.agree.balance in
              let pays = C.pays in
              let t = tally-moved tries s i was is C.here in
              let w = tally-moved works s i was is C.here in
              omega arith);
        }

    pub altered : Good m lock start (heard h e) (rack_of l (with_kept r i new) now)
    altered =
        record {
          fixed = C.fixed;
          agree = subst (λ z. Agree start (length (m.stages lock)) (heard h e) z (with_kept r i new) now) (sym C.moves) agree_after;
        }
