-- What begin, turn and end keep: soundness, the two numbers, and the counts of turns still to come.
use Rattle.std.specs.Prelude.{◌≡◌, ℕ, ◌≤◌, Some, refl}
use Rattle.std.proofs.Common.{sym, ap, ◌∙◌, subst, le_of_lt, arith}
use Rattle.std.proofs.lemmas.Bool.{cases_eq}
use Rattle.lock.specs.declared.stage.Stage.{Stage}
use Rattle.lock.specs.declared.stage.Stage.TheVariants.{Rest, Trying, Inside, Leaving}
use Rattle.lock.specs.Stages.{asked, OthersRest}
use Rattle.lock.specs.Meaning.{Kept}
use Rattle.one_bit.specs.declared.place.Place.{Place}
use Rattle.one_bit.specs.declared.place.Place.TheVariants.{Raise, Lower}
use Rattle.one_bit.specs.Places.{stage_at, to_come}
use Rattle.one_bit.specs.Plan.{OneBit, one_bit_plan, place_of, stages, turned}
use Rattle.one_bit.specs.Sound.{Numbered, Sound}
use Rattle.one_bit.specs.Meaning.{one_bit_meaning}
use Rattle.algorithm.specs.Turns.{with_place}
use Rattle.algorithm.proofs.Stations.{numbered, stage_there}
use Rattle.one_bit.specs.Put.{put, place_here, place_other}
use Rattle.one_bit.specs.Next.{at_leaving}
use Rattle.one_bit.specs.Steps.{EveryStep}
use Rattle.one_bit.specs.Turn.{after, turned_put, turned_sound, alone_after}
use Rattle.one_bit.specs.Ends.{begun_put, begun_sound, ended_put, ended_sound}

-- the turns to come of station i, put at p, are not raised
record Falls (l : OneBit) (i : ℕ) (p : Place) : Type 0 where
  trying : stage_at (place_of l i) ≡ Trying → OthersRest (stages l) i → stage_at p ≡ Trying → to_come l.n p ≤ to_come l.n (place_of l i)
  leaving : stage_at (place_of l i) ≡ Leaving → stage_at p ≡ Leaving → to_come l.n p ≤ to_come l.n (place_of l i)

module _ (l : OneBit) (s : Sound l) (i : ℕ) (h : Numbered l i) (p : Place) (s' : Sound (put l i p)) (f : Falls l i p) where
  -- the station that is put, or another, which stays where it is
  put_left : (k : ℕ) → Numbered l k → (k ≡ i → to_come l.n p ≤ to_come l.n (place_of l i)) → to_come l.n (place_of (put l i p) k) ≤ to_come l.n (place_of l k)
  put_left k w here = let a = place_here l s i h p in let b = place_other l s i h p k w in grind (arith, cases_eq k i)

  stage_put : (x : Stage) (k : ℕ) → k ≡ i → asked (stages (put l i p)) k ≡ Some x → stage_at p ≡ x
  stage_put x k e b = sym (ap stage_at (place_here l s i h p)) ∙ stage_there one_bit_plan (put l i p) s'.places_fit i x (rw e at b)

  kept_put : Kept one_bit_meaning l (put l i p)
  kept_put = record {
    sound = s';
    lone = refl;
    leave = refl;
    trying = λ k a o b q. put_left k (numbered one_bit_plan l k Trying a)
        (λ e. f.trying (stage_there one_bit_plan l s.places_fit i Trying (rw e at a)) (subst (OthersRest (stages l)) e o) (stage_put Trying k e b));
    leaving = λ k a b. put_left k (numbered one_bit_plan l k Leaving a) (λ e. f.leaving (stage_there one_bit_plan l s.places_fit i Leaving (rw e at a)) (stage_put Leaving k e b));
  }

-- what the functions keep where there is something to do
module _ (l : OneBit) (i : ℕ) (s : Sound l) where
  pub begun_kept : asked (stages l) i ≡ Some Rest → Kept one_bit_meaning l (with_place l i Raise)
  begun_kept a =
      let e = stage_there one_bit_plan l s.places_fit i Rest a in
      rw (begun_put l s i a) (kept_put l s i (numbered one_bit_plan l i Rest a) Raise (begun_sound l s i a) (record { trying = λ t o u. grind arith; leaving = λ t u. grind arith }))

  pub ended_kept : asked (stages l) i ≡ Some Inside → Kept one_bit_meaning l (with_place l i Lower)
  ended_kept a =
      let e = stage_there one_bit_plan l s.places_fit i Inside a in
      rw (ended_put l s i a) (kept_put l s i (numbered one_bit_plan l i Inside a) Lower (ended_sound l s i a) (record { trying = λ t o u. grind arith; leaving = λ t u. grind arith }))

module _ (steps : EveryStep) (l : OneBit) (i : ℕ) (s : Sound l) (h : Numbered l i) where
  pub turned_kept : Kept one_bit_meaning l (turned l i)
  turned_kept = rw (turned_put steps l s i h) (kept_put l s i h (after l i) (turned_sound steps l s i h) (record {
    trying = λ t o u. rw (alone_after steps l s i h o) (le_of_lt ((steps l i s.most h.0 h.1 (place_of l i)).falls (s.ranged i h) t));
    leaving = λ t u. rw (at_leaving (place_of l i) t) (omega arith);
  }))
