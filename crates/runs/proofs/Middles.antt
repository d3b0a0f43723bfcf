-- Who is inside, when one station's stage is altered.
use Rattle.std.proofs.Common.{◌≡◌, ℕ, ◌-◌, List, get_or, set, Some, sym, ap, ◌∙◌, subst}
use Rattle.lock.specs.declared.stage.Stage.{Stage}
use Rattle.lock.specs.declared.stage.Stage.TheVariants.{Inside}
use Rattle.lock.specs.Stages.{asked, moved}
use Rattle.lock.proofs.Moves.{asked-moved, asked_others, asked_station}
use Rattle.feed.specs.declared.board.Board.{Board}
use Rattle.rack.specs.Calls.{idle}
use Rattle.rack.specs.declared.calls.Station.{Station}
use Rattle.runs.specs.Ledger.{Ledger}
use Rattle.runs.proofs.Stations.{kept_off}
use Rattle.runs.proofs.Good.{Midway, NobodyInside, Middle, nobody, somebody}

-- at most one is inside
abbrev pub Exclusive : List Stage → Type 0
Exclusive s = (i j : ℕ) → asked s i ≡ Some Inside → asked s j ≡ Some Inside → i ≡ j

module _ {s : List Stage} {kept : List Station} {now : Board} {g : Ledger} where
  pub book_is : Middle s kept now g → NobodyInside s → now ≡ g.board
  book_is (nobody none same) empty = same
  book_is (somebody j in_j M) empty = absurd (empty j in_j)

  pub midway_of : Middle s kept now g → Exclusive s → (i : ℕ) → asked s i ≡ Some Inside → Midway i g.board (g.noted i) (get_or kept (i - 1) idle).task now
  midway_of (nobody none same) one i here = absurd (none i here)
  midway_of (somebody j in_j M) one i here = subst (λ k. Midway k g.board (g.noted k) (get_or kept (k - 1) idle).task now) (one j i in_j here) M

module _ (s : List Stage) (i : ℕ) (was is : Stage) (here : asked s i ≡ Some was) where
  -- another station that is inside was so before
  apart : (was ≡ Inside → ⊥) → (j : ℕ) → asked s j ≡ Some Inside → j ≡ i → ⊥
  apart out j in_j e = let there : asked s i ≡ Some Inside = ap (asked s) (sym e) ∙ in_j in out (cc)

  apart_after : (is ≡ Inside → ⊥) → (j : ℕ) → asked (moved s i is) j ≡ Some Inside → j ≡ i → ⊥
  apart_after out j in_j e =
      let there : asked (moved s i is) i ≡ Some Inside = ap (asked (moved s i is)) (sym e) ∙ in_j in
      let told = asked-moved s i is (asked_station s i was here) in
      out (cc)

  -- a station that is inside neither before nor after leaves things as they are inside
  pub middle_aside : {kept : List Station} {now : Board} {g g' : Ledger} (new : Station) → (was ≡ Inside → ⊥) → (is ≡ Inside → ⊥) →
      g'.board ≡ g.board → ((j : ℕ) → (j ≡ i → ⊥) → g'.noted j ≡ g.noted j) → Middle s kept now g → Middle (moved s i is) (set kept (i - 1) new) now g'
  middle_aside new out out' same-book same_noted (nobody none same) =
      nobody (λ j in_j. none j (sym (asked_others s i j is (apart_after out' j in_j)) ∙ in_j)) (same ∙ sym same-book)
  middle_aside {kept} {now} {g} {g'} new out out' same-book same_noted (somebody j in_j M) =
      let ne : j ≡ i → ⊥ = apart out j in_j in
      let least = (asked_station s i was here).0 in
      let low = (asked_station s j Inside in_j).0 in
      let task-is = ap (λ z. z.task) (kept_off kept i new least j low ne) in
      somebody j (asked_others s i j is ne ∙ in_j)
      (subst (λ b. Midway j b (g'.noted j) (get_or (set kept (i - 1) new) (j - 1) idle).task now) (sym same-book)
      (subst (λ o. Midway j g.board o (get_or (set kept (i - 1) new) (j - 1) idle).task now) (sym (same_noted j ne))
      (subst (λ t. Midway j g.board (g.noted j) t now) (sym task-is) M)))

  -- nobody was inside before the one that is now
  pub nobody_before : (was ≡ Inside → ⊥) → Exclusive (moved s i Inside) → NobodyInside s
  nobody_before out one j in_j =
      let ne : j ≡ i → ⊥ = apart out j in_j in
      ne (one j i (asked_others s i j Inside ne ∙ in_j) (asked-moved s i Inside (asked_station s i was here)))

  -- and nobody is inside after the one that was
  pub nobody_after : was ≡ Inside → (is ≡ Inside → ⊥) → Exclusive s → NobodyInside (moved s i is)
  nobody_after in_i out one j in_j =
      let ne : j ≡ i → ⊥ = apart_after out j in_j in
      ne (one j i (sym (asked_others s i j is ne) ∙ in_j) (here ∙ ap Some in_i))
