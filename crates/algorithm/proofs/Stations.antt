-- A station's stage is that of its place, and it may take a turn where its place has an access to make.
use Rattle.std.proofs.Common.{◌≡◌, ℕ, ◌-◌, ◌≤◌, ◌⊎◌, length, is_some, get_or, Some, sym, ap, ◌∙◌, ⊎_elim, arith}
use Rattle.std.specs.Option.{option_map, unwrap_or}
use Rattle.std.proofs.lemmas.Option.{slice_get-get_or, slice_get_past, unwrap_or-slice_get}
use Rattle.lock.specs.declared.stage.Stage.{Stage}
use Rattle.lock.specs.Stages.{asked, moving, is_moving}
use Rattle.lock.proofs.Places.{asked_outside, length_places}
use Rattle.lock.proofs.Stations as among
use Rattle.algorithm.specs.declared.PlaceLock.{PlaceLock}
use Rattle.algorithm.specs.Plan.{Plan, Coherent}
use Rattle.algorithm.specs.Turns.{found, place_of, stages}

-- of any lock, sound or not
module _ {P M R V : Type 0} (a : Plan P M R V) (l : PlaceLock P M) (i : ℕ) where
  abbrev pub Within : Type 0
  Within = among.Within a.stage_at a.idle l.n l.places i

  abbrev pub Outside : Type 0
  Outside = among.Outside a.stage_at a.idle l.n l.places i

  pub place_in : Within → place_of a l i ≡ get_or l.places (i - 1) a.idle
  place_in = among.place_within a.stage_at a.idle l.n l.places i

  pub in_or_out : (Within × (i ≤ length l.places)) ⊎ Outside
  in_or_out = among.within_or_outside a.stage_at a.idle l.n l.places i

  pub moving_access : Coherent a → is_moving (stages a l) i ≡ is_some (a.access_at i (place_of a l i))
  moving_access co =
      among.moving_place a.stage_at a.idle l.n l.places i (λ p. is_some (a.access_at i p)) (co.moves i)
      (sym (co.moves i a.idle) ∙ ap (λ s. moving (Some s)) co.rests)

  -- by what is found at a station's index
  pub found_place : unwrap_or (found l i) a.idle ≡ place_of a l i
  found_place = grind (arith, unwrap_or-slice_get)

  pub found_stage : option_map a.stage_at (found l i) ≡ asked (stages a l) i
  found_stage = ⊎_elim
      (λ (h : Within × (i ≤ length l.places)). let e = slice_get-get_or l.places (i - 1) a.idle (omega arith) in let f = place_in h.0 in let s = among.asked_within a.stage_at a.idle l.n l.places i h.0 h.1 in grind arith)
      (λ (o : Outside). let e = asked_outside a.stage_at l.n l.places i o in grind (arith, slice_get_past))
      in_or_out

-- of a lock with a place for each of its stations
module _ {P M R V : Type 0} (a : Plan P M R V) (l : PlaceLock P M) where
  pub length_stages : l.n ≤ length l.places → length (stages a l) ≡ l.n
  length_stages = length_places a.stage_at l.n l.places

  pub asked_at : l.n ≤ length l.places → (i : ℕ) → Within a l i → asked (stages a l) i ≡ Some (a.stage_at (place_of a l i))
  asked_at fit i h = among.asked_within a.stage_at a.idle l.n l.places i h (omega arith)

  pub numbered : (i : ℕ) (x : Stage) → asked (stages a l) i ≡ Some x → Within a l i
  numbered i x e = among.asked_numbered a.stage_at a.idle l.n l.places i x e

  pub stage_there : l.n ≤ length l.places → (i : ℕ) (x : Stage) → asked (stages a l) i ≡ Some x → a.stage_at (place_of a l i) ≡ x
  stage_there fit i x e = let f = asked_at fit i (numbered i x e) in cc
