-- What begin, turn and end keep: soundness, the two numbers, and the counts of turns still to come.
use Rattle.std.specs.Prelude.{◌≡◌, ℕ, ◌+◌, ◌≤◌, Some, ◌≢◌, refl}
use Rattle.std.proofs.Common.{sym, ap, ◌∙◌, subst, ⊎_elim, le_of_lt, arith}
use Rattle.std.proofs.lemmas.Bool.{cases_eq}
use Rattle.lock.specs.declared.stage.Stage.TheVariants.{Rest, Trying, Inside, Leaving}
use Rattle.lock.specs.Stages.{asked, OthersRest}
use Rattle.lock.specs.Meaning.{Kept}
use Rattle.fast.specs.declared.place.Place.TheVariants.{Raise, Release}
use Rattle.fast.specs.Places.{stage_at}
use Rattle.fast.specs.Plan.{Fast, fast_plan, place_of, stages, turned}
use Rattle.fast.specs.Sound.{Numbered, Sound}
use Rattle.fast.specs.Meaning.{left, fast_meaning}
use Rattle.algorithm.specs.Turns.{with_place}
use Rattle.algorithm.proofs.Stations.{numbered, stage_there}
use Rattle.fast.specs.Moves.{Outcome, put, going, Move}
use Rattle.fast.specs.Put.{place_here, place_there}
use Rattle.fast.specs.Steps.{EveryStep}
use Rattle.fast.specs.Ways.{EveryWay}
use Rattle.fast.specs.Soundness.{put_sound}
use Rattle.fast.specs.Calls.{after, turned_put, turned_move, begun_put, begun_move, ended_put, ended_move}
use Rattle.fast.specs.Alone.{other_idle, lone_nearer}

-- a move raises no count of turns to come
module _ (steps : EveryStep) (ways : EveryWay) (l : Fast) (s : Sound l) (i : ℕ) (h : Numbered l i) (w : Outcome) (m : Move l i (place_of l i) w) where
  pub leaving_here : stage_at (place_of l i) ≡ Leaving → left (put l i w) i + 1 ≡ left l i
  leaving_here t = rw (place_here l s i h w) ((ways l i (place_of l i) w m).leaving_nearer t)

  -- while another station alone tries, this one rests before and after, and has written nothing
  trying_there : (k : ℕ) → Numbered l k → (k ≢ i) → OthersRest (stages l) k → OthersRest (stages (put l i w)) k → left (put l i w) k ≤ left l k
  trying_there k v other o o' =
      let was = ap stage_at (other_idle l s k o i h (λ e. other (sym e))) in
      let is = ap stage_at (sym (place_here l s i h w) ∙ other_idle (put l i w) (put_sound steps l s i h w m) k o' i h (λ e. other (sym e))) in
      let same = (ways l i (place_of l i) w m).resting_writes_not was is in
      rw (place_there l s i h w k v other, same.0, same.1) (omega arith)

  leaving_there : (k : ℕ) → Numbered l k → (k ≢ i) → stage_at (place_of l k) ≡ Leaving → left (put l i w) k ≤ left l k
  leaving_there k v other t = let e = place_there l s i h w k v other in grind arith

  kept_put : Kept fast_meaning l (put l i w)
  kept_put = record {
    sound = put_sound steps l s i h w m;
    lone = refl;
    leave = refl;
    trying = λ k a o b p. ⊎_elim
        (λ (e : k ≡ i). rw e (le_of_lt (lone_nearer l s i (subst (OthersRest (stages l)) e o) ways h w m (stage_there fast_plan l s.places_fit i Trying (rw e at a)))))
        (λ other. trying_there k (numbered fast_plan l k Trying a) other o p)
        (cases_eq k i);
    leaving = λ k a b. ⊎_elim
        (λ (e : k ≡ i). let f = leaving_here (stage_there fast_plan l s.places_fit i Leaving (rw e at a)) in rw e (omega arith))
        (λ other. leaving_there k (numbered fast_plan l k Leaving a) other (stage_there fast_plan l s.places_fit k Leaving a))
        (cases_eq k i);
  }

-- what the functions keep where there is something to do
module _ (steps : EveryStep) (ways : EveryWay) (l : Fast) (i : ℕ) (s : Sound l) where
  pub begun_kept : asked (stages l) i ≡ Some Rest → Kept fast_meaning l (with_place l i Raise)
  begun_kept a = rw (begun_put l s i a) (kept_put steps ways l s i (numbered fast_plan l i Rest a) (going l i Raise) (begun_move l s i a))

  pub ended_kept : asked (stages l) i ≡ Some Inside → Kept fast_meaning l (with_place l i Release)
  ended_kept a = rw (ended_put l s i a) (kept_put steps ways l s i (numbered fast_plan l i Inside a) (going l i Release) (ended_move l s i a))

  pub turned_kept : Numbered l i → Kept fast_meaning l (turned l i)
  turned_kept h = rw (turned_put l i h) (kept_put steps ways l s i h (after l i) (turned_move l i))
