-- What `begin` and `end` do in a sound lock to a station that may begin, or end.
use Rattle.std.specs.Prelude.{◌≡◌, ℕ, Some}
use Rattle.std.proofs.Common.{sym, ◌∙◌, arith}
use Rattle.lock.specs.declared.stage.Stage.TheVariants.{Rest, Inside}
use Rattle.lock.specs.Stages.{asked}
use Rattle.one_bit.specs.declared.place.Place.TheVariants.{Raise, Within, Lower}
use Rattle.one_bit.specs.Plan.{OneBit, one_bit_plan, place_of, stages}
use Rattle.one_bit.specs.Sound.{Sound}
use Rattle.algorithm.specs.Turns.{with_place, begun, ended}
use Rattle.algorithm.proofs.Stations.{numbered, stage_there}
use Rattle.algorithm.proofs.Laws.{begun_at, ended_at}
use Rattle.one_bit.specs.Put.{put, put_place, put_sound}
use Rattle.one_bit.specs.Next.{at_rest, at_inside}

module _ (l : OneBit) (s : Sound l) (i : ℕ) where
  module _ (a : asked (stages l) i ≡ Some Rest) where
    pub begun_put : with_place l i Raise ≡ put l i Raise
    begun_put = let e = at_rest (place_of l i) (stage_there one_bit_plan l s.places_fit i Rest a) in grind (arith, put_place l s i (numbered one_bit_plan l i Rest a) Raise)

    pub begin_put : begun one_bit_plan l i ≡ put l i Raise
    begin_put = begun_at one_bit_plan l i a ∙ begun_put

    pub begun_sound : Sound (put l i Raise)
    begun_sound = put_sound l s i (numbered one_bit_plan l i Rest a) Raise tt (λ k w d m v. omega arith)

  module _ (a : asked (stages l) i ≡ Some Inside) where
    pub within : place_of l i ≡ Within
    within = at_inside (place_of l i) (stage_there one_bit_plan l s.places_fit i Inside a)

    pub ended_put : with_place l i Lower ≡ put l i Lower
    ended_put = let e = within in grind (arith, put_place l s i (numbered one_bit_plan l i Inside a) Lower)

    pub end_put : ended one_bit_plan l i ≡ put l i Lower
    end_put = ended_at one_bit_plan l i a ∙ ended_put

    pub ended_sound : Sound (put l i Lower)
    ended_sound =
        let h = numbered one_bit_plan l i Inside a in
        put_sound l s i h Lower tt (λ k w d m v. s.apart i k h w (λ e. d (sym e)) (rw within m) v)
