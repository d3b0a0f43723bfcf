-- The laws that the lock owes.
use Rattle.std.specs.Prelude.{◌≡◌, ℕ, ◌<◌, ◌≤◌, false, Some, refl}
use Rattle.std.proofs.Common.{sym, ap, ◌∙◌, arith}
use Rattle.std.proofs.lemmas.Bool.{cases_eq}
use Rattle.lock.specs.declared.stage.Stage.TheVariants.{Trying, Inside, Leaving}
use Rattle.lock.specs.Stages.{asked, OthersRest}
use Rattle.lock.specs.Meaning.{Lawful}
use Rattle.lock.specs.Fresh.{Fresh}
use Rattle.algorithm.specs.Plan.{Coherent}
use Rattle.algorithm.proofs.Lowered.{down_at}
use Rattle.algorithm.proofs.Stations.{numbered, stage_there}
use Rattle.algorithm.proofs.Laws.{Particulars, lawful_by, idle_at, fresh_by}
use Rattle.one_bit.specs.declared.place.Place.TheVariants.{Idle, Lower}
use Rattle.one_bit.specs.Places.{raised, to_come}
use Rattle.one_bit.specs.Registers.{value_of, with_value}
use Rattle.one_bit.specs.Plan.{OneBit, one_bit_plan, fresh, place_of, flag_of, stages, turned}
use Rattle.one_bit.specs.Sound.{Numbered, Sound}
use Rattle.one_bit.specs.Meaning.{one_bit_claims, one_bit_meaning}
use Rattle.one_bit.specs.Put.{put, place_here}
use Rattle.one_bit.specs.Next.{at_leaving, to_come_most}
use Rattle.one_bit.specs.Steps.{after_from, EveryStep}
use Rattle.one_bit.specs.Turn.{after, turned_put, alone_after}
use Rattle.one_bit.specs.Ends.{within}
use Rattle.one_bit.specs.Kept.{begun_kept, ended_kept, turned_kept}

pub coherent : Coherent one_bit_plan
coherent = record { rests = refl; moves = λ i p. grind arith }

module _ (steps : EveryStep) (l : OneBit) (i : ℕ) (s : Sound l) where
  lone_falls : asked (stages l) i ≡ Some Trying → OthersRest (stages l) i → to_come (turned l i).n (place_of (turned l i) i) < to_come l.n (place_of l i)
  lone_falls a o =
      let h = numbered one_bit_plan l i Trying a in
      rw (turned_put steps l s i h, place_here l s i h (after l i), alone_after steps l s i h o)
      ((steps l i s.most h.0 h.1 (place_of l i)).falls (s.ranged i h) (stage_there one_bit_plan l s.places_fit i Trying a))

  -- a leaving station
  module _ (a : asked (stages l) i ≡ Some Leaving) where
    lower : place_of l i ≡ Lower
    lower = at_leaving (place_of l i) (stage_there one_bit_plan l s.places_fit i Leaving a)

    pub lowered_put : turned l i ≡ put l i Idle
    lowered_put = turned_put steps l s i (numbered one_bit_plan l i Leaving a) ∙ ap (λ p. put l i (after_from l i p)) lower

    leave_bound : to_come l.n (place_of l i) ≤ 1
    leave_bound = rw lower (omega arith)

    leave_falls : to_come (turned l i).n (place_of (turned l i) i) < to_come l.n (place_of l i)
    leave_falls = rw (lowered_put, place_here l s i (numbered one_bit_plan l i Leaving a) Idle, lower) (omega arith)

exclusive : (l : OneBit) (i j : ℕ) → Sound l → asked (stages l) i ≡ Some Inside → asked (stages l) j ≡ Some Inside → i ≡ j
exclusive l i j s a b =
    let h = numbered one_bit_plan l i Inside a in
    let w = numbered one_bit_plan l j Inside b in
    let most = s.most in
    let apart = s.apart i j h w in
    let e = within l s i a in
    let f = within l s j b in
    grind (arith, cases_eq i j)

particulars : EveryStep → Particulars one_bit_plan value_of with_value one_bit_claims
particulars steps = record {
  least = λ l s. s.least;
  most = λ l s. s.most;
  places_fit = λ l s. s.places_fit;
  entry = refl;
  exit = refl;
  trying_on = λ n i p v e. grind arith;
  leaving_on = λ n i p v e. grind arith;
  begun_kept = begun_kept;
  ended_kept = ended_kept;
  turned_kept = turned_kept steps;
  exclusive = exclusive;
  lone_bound = λ l i s a o. to_come_most l.n (place_of l i);
  lone_falls = lone_falls steps;
  leave_bound = leave_bound steps;
  leave_falls = leave_falls steps;
}

pub lawful : EveryStep → Lawful one_bit_meaning
lawful steps = lawful_by one_bit_plan value_of with_value one_bit_claims coherent (particulars steps)

-- a fresh lock is sound
module _ (n : ℕ) (least : 1 ≤ n) (most : n ≤ 16) where
  idle : (i : ℕ) → Numbered (fresh n) i → place_of (fresh n) i ≡ Idle
  idle = idle_at one_bit_plan coherent n most

  down : (i : ℕ) → Numbered (fresh n) i → flag_of (fresh n) i ≡ false
  down i h = down_at i (omega arith)

  fresh_sound : Sound (fresh n)
  fresh_sound = record {
    least = least;
    most = most;
    places_fit = most;
    flags_fit = most;
    flags = λ i h. down i h ∙ ap raised (sym (idle i h));
    ranged = λ i h. rw (idle i h) tt;
    apart = λ i k h w d. rw (idle i h) (λ a b. omega arith);
  }

  pub starts : Fresh one_bit_meaning n (fresh n)
  starts = fresh_by one_bit_plan coherent n most value_of with_value one_bit_claims fresh_sound
