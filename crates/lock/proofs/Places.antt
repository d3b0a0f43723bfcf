-- The stages of a lock that keeps a place for each station, of which the first n count, and f gives the stage of a place.
use Rattle.std.proofs.Common.{◌≡◌, ℕ, zero, suc, ◌-◌, ◌<◌, ◌≤◌, min, ◌⊎◌, List, [], ◌∷◌, map, length, get_or, take, set, Some, None, refl, ap, ◌∙◌, arith, length-take, get_or-take}
use Rattle.std.specs.Option.{option_map}
use Rattle.std.proofs.lemmas.Option.{slice_get-map, slice_get-get_or, slice_get_past}
use lib.ListN.{length-map}
use Rattle.lock.specs.declared.stage.Stage.{Stage}
use Rattle.lock.specs.Stages.{asked, moved}

set_stage : {P : Type 0} (f : P → Stage) (n : ℕ) (ps : List P) (k : ℕ) (p : P) → map f (take n (set ps k p)) ≡ set (map f (take n ps)) k (f p)
set_stage f zero ps k p = refl
set_stage f (suc n) [] k p = refl
set_stage f (suc n) (q ∷ ps) zero p = refl
set_stage f (suc n) (q ∷ ps) (suc k) p = ap (λ s. f q ∷ s) (set_stage f n ps k p)

before-suc : (k : ℕ) → suc k - 1 ≡ k
before-suc k = omega arith

module _ {P : Type 0} (f : P → Stage) (n : ℕ) (ps : List P) where
  pub length_places : n ≤ length ps → length (map f (take n ps)) ≡ n
  length_places h = simp (length-map, length-take) (omega arith)

  -- the stage of a station is that of its place
  pub asked_place : (i : ℕ) (d : P) → 1 ≤ i → i ≤ n → i ≤ length ps → asked (map f (take n ps)) i ≡ Some (f (get_or ps (i - 1) d))
  asked_place zero d a b c = absurd (omega arith)
  asked_place (suc k) d a b c =
      let long : k < length (take n ps) = simp length-take (omega arith) in
      slice_get-map f (take n ps) k ∙ ap (option_map f) (slice_get-get_or (take n ps) k d long) ∙ rw (before-suc k, get_or-take n ps k d b)

  -- a number that is no station's has none
  pub asked_outside : (i : ℕ) → (i ≡ 0) ⊎ (min n (length ps) < i) → asked (map f (take n ps)) i ≡ None
  asked_outside zero o = refl
  asked_outside (suc k) o = slice_get_past (map f (take n ps)) k (simp (length-map, length-take) (omega arith))

  -- one place set is one stage moved
  pub moved_place : (i : ℕ) (p : P) → 1 ≤ i → map f (take n (set ps (i - 1) p)) ≡ moved (map f (take n ps)) i (f p)
  moved_place zero p a = absurd (omega arith)
  moved_place (suc k) p a = rw (before-suc k) (set_stage f n ps k p)
