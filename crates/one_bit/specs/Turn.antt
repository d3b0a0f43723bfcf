-- One turn of a station of a sound lock.
use Rattle.std.specs.Prelude.{◌≡◌, ℕ, ◌≤◌, false, length, ◌≢◌, refl}
use Rattle.std.proofs.Common.{sym, ap, ◌∙◌}
use Rattle.lock.specs.declared.stage.Stage.TheVariants.{Rest}
use Rattle.lock.specs.Stages.{OthersRest}
use Rattle.one_bit.specs.declared.place.Place.{Place}
use Rattle.one_bit.specs.Places.{access_at, raised}
use Rattle.one_bit.specs.Turns.{next}
use Rattle.one_bit.specs.Plan.{OneBit, one_bit_plan, place_of, flag_of, stages, turned}
use Rattle.one_bit.specs.Sound.{Numbered, Sound}
use Rattle.algorithm.proofs.Stations.{length_stages, stage_there}
use Rattle.one_bit.specs.Put.{put, put_sound}
use Rattle.one_bit.specs.Next.{at_rest}
use Rattle.one_bit.specs.Steps.{on_bus, after_from, EveryStep}

abbrev pub after : OneBit → ℕ → Place
after l i = after_from l i (place_of l i)

module _ (steps : EveryStep) (l : OneBit) (s : Sound l) (i : ℕ) (h : Numbered l i) where
  pub turned_put : turned l i ≡ put l i (after l i)
  turned_put = (steps l i s.most h.0 h.1 (place_of l i)).put_there s h refl

  pub turned_sound : Sound (put l i (after l i))
  turned_sound =
      let r = s.ranged i h in
      let step = steps l i s.most h.0 h.1 (place_of l i) in
      put_sound l s i h (after l i)
      (step.ranged (on_bus l (access_at i (place_of l i))) r)
      (λ k w d. step.clear k (place_of l k) w.0 w.1 d r (s.flags k w) (s.apart i k h w (λ e. d (sym e))))

  -- alone, it reads no raised flag
  module _ (o : OthersRest (stages l) i) where
    others_lowered : (j : ℕ) → Numbered l j → (j ≢ i) → flag_of l j ≡ false
    others_lowered j w d =
        let here : j ≤ length (stages l) = rw (length_stages one_bit_plan l s.places_fit) w.1 in
        s.flags j w ∙ ap raised (at_rest (place_of l j) (stage_there one_bit_plan l s.places_fit j Rest (o j (w.0, here) d)))

    pub alone_after : after l i ≡ next l.n i (place_of l i) false
    alone_after = (steps l i s.most h.0 h.1 (place_of l i)).alone_from others_lowered (s.ranged i h)
