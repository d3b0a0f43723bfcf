-- Of a lock that keeps a place for each of its stations, sound or not: a station's stage is that of its place.
use Rattle.std.proofs.Common.{◌≡◌, ℕ, ◌-◌, ◌<◌, ◌≤◌, min, Bool, false, ◌⊎◌, List, length, get_or, Some, sym, ap, ◌∙◌, ⊎_elim, arith}
use Rattle.std.proofs.lemmas.List.{get_or_past}
use Rattle.lock.specs.declared.stage.Stage.{Stage}
use Rattle.lock.specs.Stages.{asked, moving, is_moving}
use Rattle.lock.specs.Places.{place_among, stages_among}
use Rattle.lock.proofs.Places.{asked_place, asked_outside}

module _ {P : Type 0} (f : P → Stage) (idle : P) (n : ℕ) (ps : List P) (i : ℕ) where
  -- a number that is a station's, and one that is not
  abbrev pub Within : Type 0
  Within = (1 ≤ i) × (i ≤ n)

  abbrev pub Outside : Type 0
  Outside = (i ≡ 0) ⊎ (min n (length ps) < i)

  pub place_within : Within → place_among idle n ps i ≡ get_or ps (i - 1) idle
  place_within h = grind arith

  pub place_outside : Outside → place_among idle n ps i ≡ idle
  place_outside o = grind (arith, get_or_past)

  pub within_or_outside : (Within × (i ≤ length ps)) ⊎ Outside
  within_or_outside = grind arith

  pub asked_within : Within → i ≤ length ps → asked (stages_among f n ps) i ≡ Some (f (place_among idle n ps i))
  asked_within h m = asked_place f n ps i idle h.0 h.1 m ∙ ap (λ p. Some (f p)) (sym (place_within h))

  pub asked_read : (p : P) → Within → i ≤ length ps → p ≡ get_or ps (i - 1) idle → Some (f p) ≡ asked (stages_among f n ps) i
  asked_read p h m e = ap (λ q. Some (f q)) (e ∙ sym (place_within h)) ∙ sym (asked_within h m)

  -- a number that has a stage is a station's
  pub asked_numbered : (x : Stage) → asked (stages_among f n ps) i ≡ Some x → Within
  asked_numbered x e = ⊎_elim (λ h. h.0) (λ o. let none = asked_outside f n ps i o in grind arith) within_or_outside

  -- a station may take a turn where its place moves
  pub moving_place : (moves : P → Bool) → ((p : P) → moving (Some (f p)) ≡ moves p) → moves idle ≡ false → is_moving (stages_among f n ps) i ≡ moves (place_among idle n ps i)
  moving_place moves agree still =
      ⊎_elim
      (λ (h : Within × (i ≤ length ps)). ap moving (asked_within h.0 h.1) ∙ agree (place_among idle n ps i))
      (λ (o : Outside). ap moving (asked_outside f n ps i o) ∙ sym (ap moves (place_outside o) ∙ still))
      within_or_outside
