-- After a move of one station, its flag, its place and its stage are those of the outcome, and all others' are as they were.
use Rattle.std.specs.Prelude.{◌≡◌, ℕ}
use Rattle.std.proofs.Common.{arith, get_or-set_same, get_or-set_other}
use Rattle.lock.specs.Stages.{moved}
use Rattle.lock.proofs.Places.{moved_place}
use Rattle.fast.specs.Places.{stage_at}
use Rattle.fast.specs.Plan.{Fast, place_of, flag_of, stages}
use Rattle.fast.specs.Sound.{Numbered, Sound}
use Rattle.fast.specs.Moves.{Outcome, put}

module _ (l : Fast) (s : Sound l) (i : ℕ) (h : Numbered l i) (w : Outcome) where
  pub stages_put : stages (put l i w) ≡ moved (stages l) i (stage_at w.place)
  stages_put = moved_place stage_at l.n l.places i w.place h.0

  pub place_here : place_of (put l i w) i ≡ w.place
  place_here = grind (arith, get_or-set_same)

  pub flag_here : flag_of (put l i w) i ≡ w.flag
  flag_here = grind (arith, get_or-set_same)

  module _ (k : ℕ) (v : Numbered l k) (other : k ≡ i → ⊥) where
    pub place_there : place_of (put l i w) k ≡ place_of l k
    place_there = grind (arith, get_or-set_other)

    pub flag_there : flag_of (put l i w) k ≡ flag_of l k
    flag_there = grind (arith, get_or-set_other)
