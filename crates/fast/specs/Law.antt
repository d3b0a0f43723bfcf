-- The laws that the lock owes.
use Rattle.std.specs.Prelude.{◌≡◌, ℕ, ◌<◌, ◌≤◌, false, Some, refl}
use Rattle.std.proofs.Common.{⊎_elim, arith}
use Rattle.std.proofs.lemmas.Bool.{cases_eq}
use Rattle.std.proofs.lemmas.Bool.Decides.{nat_tests}
use Rattle.lock.specs.declared.stage.Stage.TheVariants.{Trying, Inside, Leaving}
use Rattle.lock.specs.Stages.{asked, OthersRest}
use Rattle.lock.specs.Meaning.{Lawful}
use Rattle.lock.specs.Fresh.{Fresh}
use Rattle.algorithm.specs.Plan.{Coherent}
use Rattle.algorithm.proofs.Lowered.{down_at}
use Rattle.algorithm.proofs.Stations.{numbered, stage_there}
use Rattle.algorithm.proofs.Laws.{Particulars, lawful_by, idle_at, fresh_by}
use Rattle.fast.specs.declared.place.Place.TheVariants.{Idle}
use Rattle.fast.specs.Registers.{value_of, with_value}
use Rattle.fast.specs.Plan.{Fast, fast_plan, fresh, place_of, flag_of, stages, turned}
use Rattle.fast.specs.Sound.{Numbered, Own, Pair, Sound}
use Rattle.fast.specs.Meaning.{left, fast_claims, fast_meaning}
use Rattle.fast.specs.Steps.{EveryStep}
use Rattle.fast.specs.Ways.{to_come_most, leave_most, EveryWay}
use Rattle.fast.specs.Calls.{after, turned_put, turned_move, within}
use Rattle.fast.specs.Alone.{lone_nearer}
use Rattle.fast.specs.Kept.{leaving_here, begun_kept, ended_kept, turned_kept}

pub coherent : Coherent fast_plan
coherent = record { rests = refl; moves = λ i p. grind arith }

module _ (steps : EveryStep) (ways : EveryWay) (l : Fast) (i : ℕ) (s : Sound l) where
  lone_falls : asked (stages l) i ≡ Some Trying → OthersRest (stages l) i → left (turned l i) i < left l i
  lone_falls a o =
      let h = numbered fast_plan l i Trying a in
      rw (turned_put l i h) (lone_nearer l s i o ways h (after l i) (turned_move l i) (stage_there fast_plan l s.places_fit i Trying a))

  -- a leaving station
  module _ (a : asked (stages l) i ≡ Some Leaving) where
    leave_bound : left l i ≤ 2
    leave_bound = leave_most l.n l.registers.x l.registers.y i (place_of l i) (stage_there fast_plan l s.places_fit i Leaving a)

    leave_falls : left (turned l i) i < left l i
    leave_falls =
        let h = numbered fast_plan l i Leaving a in
        let e = leaving_here steps ways l s i h (after l i) (turned_move l i) (stage_there fast_plan l s.places_fit i Leaving a) in
        rw (turned_put l i h) (omega arith)

exclusive : (l : Fast) (i j : ℕ) → Sound l → asked (stages l) i ≡ Some Inside → asked (stages l) j ≡ Some Inside → i ≡ j
exclusive l i j s a b =
    let apart = s.pair i j (numbered fast_plan l i Inside a) (numbered fast_plan l j Inside b) in
    let e = within l s i a in
    let f = within l s j b in
    ⊎_elim (λ same. same) (λ other. absurd ((apart other).apart (rw e refl) (rw f refl))) (cases_eq i j)

particulars : EveryStep → EveryWay → Particulars fast_plan value_of with_value fast_claims
particulars steps ways = record {
  least = λ l s. s.least;
  most = λ l s. s.most;
  places_fit = λ l s. s.places_fit;
  entry = refl;
  exit = refl;
  trying_on = λ n i p v t. grind (arith, nat_tests);
  leaving_on = λ n i p v t. grind arith;
  begun_kept = begun_kept steps ways;
  ended_kept = ended_kept steps ways;
  turned_kept = turned_kept steps ways;
  exclusive = exclusive;
  lone_bound = λ l i s a o. to_come_most l.n l.registers.x l.registers.y i (place_of l i);
  lone_falls = lone_falls steps ways;
  leave_bound = leave_bound steps ways;
  leave_falls = leave_falls steps ways;
}

pub lawful : EveryStep → EveryWay → Lawful fast_meaning
lawful steps ways = lawful_by fast_plan value_of with_value fast_claims coherent (particulars steps ways)

-- a fresh lock is sound
own_idle : (n i : ℕ) → 1 ≤ i → Own n 0 0 i false Idle
own_idle n i h = grind arith

pair_idle : (i k : ℕ) → Pair 0 0 i k false Idle Idle
pair_idle i k = grind arith

module _ (n : ℕ) (least : 1 ≤ n) (most : n ≤ 16) where
  idle : (i : ℕ) → Numbered (fresh n) i → place_of (fresh n) i ≡ Idle
  idle = idle_at fast_plan coherent n most

  down : (i : ℕ) → Numbered (fresh n) i → flag_of (fresh n) i ≡ false
  down i h = down_at i (omega arith)

  fresh_sound : Sound (fresh n)
  fresh_sound = record {
    least = least;
    most = most;
    places_fit = most;
    flags_fit = most;
    y_named = omega arith;
    own = λ i h. rw (down i h, idle i h) (own_idle n i h.0);
    pair = λ i k h v other. rw (down i h, idle i h, idle k v) (pair_idle i k);
  }

  pub starts : Fresh fast_meaning n (fresh n)
  starts = fresh_by fast_plan coherent n most value_of with_value fast_claims fresh_sound
