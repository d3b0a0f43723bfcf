-- While all others rest, a station finds Y free or its own, and every other flag lowered, so each turn brings it nearer.
use Rattle.std.specs.Prelude.{◌≡◌, ℕ, ◌<◌, ◌≤◌, false, ◌⊎◌, length, ◌≢◌, refl}
use Rattle.std.proofs.Common.{inl, inr, ⊎_elim, arith}
use Rattle.std.proofs.lemmas.Bool.{cases_eq}
use Rattle.lock.specs.declared.stage.Stage.TheVariants.{Rest, Trying}
use Rattle.lock.specs.Stages.{OthersRest}
use Rattle.fast.specs.declared.place.Place.TheVariants.{Idle}
use Rattle.fast.specs.Places.{stage_at}
use Rattle.fast.specs.Plan.{Fast, fast_plan, place_of, flag_of, stages}
use Rattle.fast.specs.Sound.{Numbered, Sound}
use Rattle.fast.specs.Meaning.{left}
use Rattle.algorithm.proofs.Stations.{length_stages, stage_there}
use Rattle.fast.specs.Moves.{Outcome, put, Move}
use Rattle.fast.specs.Put.{place_here}
use Rattle.fast.specs.Ways.{at_rest, EveryWay}

module _ (l : Fast) (s : Sound l) (i : ℕ) (o : OthersRest (stages l) i) where
  pub other_idle : (k : ℕ) → Numbered l k → (k ≢ i) → place_of l k ≡ Idle
  other_idle k v other =
      let here : k ≤ length (stages l) = rw (length_stages fast_plan l s.places_fit) v.1 in
      at_rest (place_of l k) (stage_there fast_plan l s.places_fit k Rest (o k (v.0, here) other))

  pub y_free : (l.registers.y ≡ 0) ⊎ (l.registers.y ≡ i)
  y_free = ⊎_elim inl (λ taken. ⊎_elim inr (λ other. absurd (none taken other)) (cases_eq l.registers.y i)) (cases_eq l.registers.y 0)
    where
      none : (l.registers.y ≢ 0) → (l.registers.y ≢ i) → ⊥
      none taken other =
          let v : Numbered l l.registers.y = (omega arith, s.y_named) in
          let e = other_idle l.registers.y v other in
          let f = (s.own l.registers.y v).owner refl in
          grind arith

  pub others_lowered : (j : ℕ) → 1 ≤ j → j ≤ l.n → (j ≢ i) → flag_of l j ≡ false
  others_lowered j a b other = let e = other_idle j (a, b) other in (s.own j (a, b)).lowered (grind arith)

  module _ (ways : EveryWay) (h : Numbered l i) (w : Outcome) (m : Move l i (place_of l i) w) (t : stage_at (place_of l i) ≡ Trying) where
    pub lone_nearer : left (put l i w) i < left l i
    lone_nearer = rw (place_here l s i h w) ((ways l i (place_of l i) w m).alone_falls (s.own i h) y_free others_lowered t)
