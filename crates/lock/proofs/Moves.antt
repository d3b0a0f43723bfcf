-- What one altered stage leaves of a list of stages.
use Rattle.std.proofs.Common.{◌≡◌, ℕ, zero, suc, ◌<◌, ◌≢◌, List, [], ◌∷◌, length, set, Some, refl, ap, arith}
use Rattle.std.proofs.lemmas.List.{length-set}
use Rattle.std.specs.List.{slice_get}
use Rattle.std.proofs.lemmas.Option.{slice_get_within}
use Rattle.lock.specs.declared.stage.Stage.{Stage}
use Rattle.lock.specs.Stages.{Station, asked, moved}

-- by indices from 0

set_same_at : (s : List Stage) (k : ℕ) (x : Stage) → k < length s → slice_get (set s k x) k ≡ Some x
set_same_at [] k x h = absurd (omega arith)
set_same_at (y ∷ s) zero x h = refl
set_same_at (y ∷ s) (suc k) x h = set_same_at s k x (omega arith)

set_other_at : (s : List Stage) (k j : ℕ) (x : Stage) → j ≢ k → slice_get (set s k x) j ≡ slice_get s j
set_other_at [] k j x h = refl
set_other_at (y ∷ s) zero zero x h = absurd (h refl)
set_other_at (y ∷ s) zero (suc j) x h = refl
set_other_at (y ∷ s) (suc k) zero x h = refl
set_other_at (y ∷ s) (suc k) (suc j) x h = set_other_at s k j x (λ e. h (ap suc e))

set_same : (s : List Stage) (k : ℕ) (x : Stage) → slice_get s k ≡ Some x → set s k x ≡ s
set_same [] k x e = refl
set_same (y ∷ s) zero x e = cc
set_same (y ∷ s) (suc k) x e = ap (λ t. y ∷ t) (set_same s k x e)

-- by station numbers

module _ (s : List Stage) where
  -- the altered station, and any other
  pub asked-moved : (i : ℕ) (x : Stage) → Station s i → asked (moved s i x) i ≡ Some x
  asked-moved zero x (l, m) = absurd (omega arith)
  asked-moved (suc k) x (l, m) = set_same_at s k x (omega arith)

  pub asked_others : (i j : ℕ) (x : Stage) → j ≢ i → asked (moved s i x) j ≡ asked s j
  asked_others zero j x h = refl
  asked_others (suc i) zero x h = refl
  asked_others (suc i) (suc j) x h = set_other_at s i j x (λ e. h (ap suc e))

  -- to the stage that it has already
  pub moved_same : (i : ℕ) (x : Stage) → asked s i ≡ Some x → moved s i x ≡ s
  moved_same zero x e = refl
  moved_same (suc k) x e = set_same s k x e

  pub length_moved : (i : ℕ) (x : Stage) → length (moved s i x) ≡ length s
  length_moved zero x = refl
  length_moved (suc k) x = length-set s k x

  -- a number that has a stage is a station's
  pub asked_station : (i : ℕ) (x : Stage) → asked s i ≡ Some x → Station s i
  asked_station zero x e = cc
  asked_station (suc k) x e = let r = slice_get_within s k x e in (omega arith, omega arith)
