-- In a sound lock a turn, a begin and an end is a move of the station.
use Rattle.std.specs.Prelude.{◌≡◌, ℕ, Some, refl}
use Rattle.std.proofs.Common.{ap, ◌∙◌, inl, inr}
use Rattle.lock.specs.declared.stage.Stage.TheVariants.{Rest, Inside}
use Rattle.lock.specs.Stages.{asked, moved}
use Rattle.fast.specs.declared.place.Place.TheVariants.{Raise, Within, Release}
use Rattle.fast.specs.Places.{stage_at, access_at}
use Rattle.fast.specs.Plan.{Fast, fast_plan, place_of, stages, turned}
use Rattle.fast.specs.Sound.{Numbered, Sound}
use Rattle.algorithm.specs.Turns.{with_place, begun, ended}
use Rattle.algorithm.proofs.Stations.{numbered, stage_there}
use Rattle.algorithm.proofs.Laws.{begun_at, ended_at}
use Rattle.fast.specs.Moves.{Outcome, put, going, outcome, Move, going_put, step_put}
use Rattle.fast.specs.Put.{stages_put}
use Rattle.fast.specs.Ways.{at_rest, at_inside}

-- what a turn leads to
abbrev pub after : Fast → ℕ → Outcome
after l i = outcome l i (place_of l i) (access_at i (place_of l i))

module _ (l : Fast) (i : ℕ) where
  pub turned_put : Numbered l i → turned l i ≡ put l i (after l i)
  turned_put h = step_put l i h (place_of l i) refl

  pub turned_move : Move l i (place_of l i) (after l i)
  turned_move = inl refl

module _ (l : Fast) (s : Sound l) (i : ℕ) where
  pub stages_turned : Numbered l i → stages (turned l i) ≡ moved (stages l) i (stage_at (after l i).place)
  stages_turned h = ap stages (turned_put l i h) ∙ stages_put l s i h (after l i)

  module _ (a : asked (stages l) i ≡ Some Rest) where
    pub begun_put : with_place l i Raise ≡ put l i (going l i Raise)
    begun_put = going_put l i (numbered fast_plan l i Rest a) Raise

    pub begin_put : begun fast_plan l i ≡ put l i (going l i Raise)
    begin_put = begun_at fast_plan l i a ∙ begun_put

    pub begun_move : Move l i (place_of l i) (going l i Raise)
    begun_move = inr (inl (at_rest (place_of l i) (stage_there fast_plan l s.places_fit i Rest a), refl))

  module _ (a : asked (stages l) i ≡ Some Inside) where
    pub within : place_of l i ≡ Within
    within = at_inside (place_of l i) (stage_there fast_plan l s.places_fit i Inside a)

    pub ended_put : with_place l i Release ≡ put l i (going l i Release)
    ended_put = going_put l i (numbered fast_plan l i Inside a) Release

    pub end_put : ended fast_plan l i ≡ put l i (going l i Release)
    end_put = ended_at fast_plan l i a ∙ ended_put

    pub ended_move : Move l i (place_of l i) (going l i Release)
    ended_move = inr (inr (within, refl))
