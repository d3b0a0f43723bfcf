-- A station that is alone climbs: each turn is one fewer to come. To leave, it goes from place to place.
use Rattle.std.proofs.Common.{◌≡◌, ℕ, zero, suc, ◌+◌, ◌<◌, ◌≤◌, false, ◌⊎◌, Some, ◌≢◌, ap, ◌∙◌, arith}
use Rattle.std.proofs.lemmas.Bool.Decides.{nat_tests}
use Rattle.lock.specs.declared.stage.Stage.TheVariants.{Rest, Trying, Inside, Leaving}
use Rattle.lock.specs.Stages.{Station, asked, OthersRest, AllRest}
use Rattle.lock.specs.Meaning.{turns, Exactly}
use Rattle.lock.proofs.Exact.{others_moved, Ascent, waits, enters}
use Rattle.lock.proofs.Places.{moved_place}
use Rattle.fast.specs.declared.place.Place.{Place}
use Rattle.fast.specs.declared.place.Place.TheVariants.{Idle, Raise, Announce, Glance, Retreat, Await, Claim, Confirm, Lower, Scan, Recheck, Retry, Within, Release, Clear}
use Rattle.fast.specs.Places.{stage_at, access_at, to_come}
use Rattle.algorithm.specs.Turns as by
use Rattle.algorithm.proofs.Stations.{asked_at, numbered}
use Rattle.algorithm.proofs.Laws.{begun_at, ended_at}
use Rattle.fast.specs.Plan.{Fast, fast_plan, place_of, flag_of, stages, turned}
use Rattle.fast.specs.Sound.{Numbered, Own, Sound}
use Rattle.fast.specs.Meaning.{left, fast_meaning}
use Rattle.fast.specs.Moves.{Outcome, put, going, outcome, Move}
use Rattle.fast.specs.Put.{place_here}
use Rattle.fast.specs.Steps.{steps}
use Rattle.fast.specs.Soundness.{put_sound}
use Rattle.fast.specs.Calls.{after, turned_put, turned_move, begun_put, begun_move, ended_put, ended_move}
use Rattle.fast.specs.Alone.{y_free, others_lowered}

abbrev begun : Fast → ℕ → Fast
begun = by.begun fast_plan

abbrev ended : Fast → ℕ → Fast
ended = by.ended fast_plan

-- on the way in

-- the way in of a station that finds Y free and X its own, and inside
abbrev Climbs : (x i : ℕ) → Place → Type 0
Climbs x i Idle = ⊥
Climbs x i Raise = Unit {0}
Climbs x i Announce = Unit {0}
Climbs x i Glance = x ≡ i
Climbs x i Retreat = ⊥
Climbs x i Await = ⊥
Climbs x i Claim = x ≡ i
Climbs x i Confirm = x ≡ i
Climbs x i Lower = ⊥
Climbs x i (Scan j) = ⊥
Climbs x i Recheck = ⊥
Climbs x i Retry = ⊥
Climbs x i Within = Unit {0}
Climbs x i Release = ⊥
Climbs x i Clear = ⊥

-- with turns to come it is trying, and with none inside
climbs_trying : (n x y i : ℕ) (p : Place) → Climbs x i p → 0 < to_come n x y i p → stage_at p ≡ Trying
climbs_trying n x y i p c t = grind (arith, nat_tests)

climbs_inside : (n x y i : ℕ) (p : Place) → Climbs x i p → to_come n x y i p ≡ 0 → stage_at p ≡ Inside
climbs_inside n x y i p c t = grind (arith, nat_tests)

-- Y is free or the station's own, and every other flag is lowered
module _ (l : Fast) (i : ℕ) (p : Place) (w : Outcome) (m : Move l i p w) (own : Own l.n l.registers.x l.registers.y i (flag_of l i) p) (free : (l.registers.y ≡ 0) ⊎ (l.registers.y ≡ i))
    (lowered : (j : ℕ) → 1 ≤ j → j ≤ l.n → (j ≢ i) → flag_of l j ≡ false) where
  alone_climbs : stage_at p ≡ Trying → Climbs l.registers.x i p → Climbs w.x i w.place × (to_come l.n w.x w.y i w.place + 1 ≡ to_come l.n l.registers.x l.registers.y i p)
  alone_climbs t c = grind (arith, nat_tests)

module _ (l : Fast) (s : Sound l) (i : ℕ) (o : OthersRest (stages l) i) (h : Numbered l i) (w : Outcome) (m : Move l i (place_of l i) w)
    (t : stage_at (place_of l i) ≡ Trying) where
  lone_climbs : Climbs l.registers.x i (place_of l i) → Climbs w.x i (place_of (put l i w) i) × (left (put l i w) i + 1 ≡ left l i)
  lone_climbs c = rw (place_here l s i h w) (alone_climbs l i (place_of l i) w m (s.own i h) (y_free l s i o) (others_lowered l s i o) t c)

record Alone (l : Fast) (i : ℕ) : Type 0 where
  sound : Sound l
  here : Numbered l i
  others : OthersRest (stages l) i
  climbs : Climbs l.registers.x i (place_of l i)

asked_alone : (l : Fast) (i : ℕ) (a : Alone l i) → asked (stages l) i ≡ Some (stage_at (place_of l i))
asked_alone l i a = asked_at fast_plan l a.sound.places_fit i a.here

-- with turns to come it is trying, and with none inside
alone_trying : (l : Fast) (i : ℕ) → Alone l i → 0 < left l i → asked (stages l) i ≡ Some Trying
alone_trying l i a m = asked_alone l i a ∙ ap Some (climbs_trying l.n l.registers.x l.registers.y i (place_of l i) a.climbs m)

alone_inside : (l : Fast) (i : ℕ) → Alone l i → left l i ≡ 0 → asked (stages l) i ≡ Some Inside
alone_inside l i a e = asked_alone l i a ∙ ap Some (climbs_inside l.n l.registers.x l.registers.y i (place_of l i) a.climbs e)

-- after a move the others rest as they did
module _ (l : Fast) (s : Sound l) (i : ℕ) (h : Numbered l i) (w : Outcome) (m : Move l i (place_of l i) w) where
  others_put : OthersRest (stages l) i → OthersRest (stages (put l i w)) i
  others_put = others_moved (stages l) (stages (put l i w)) i (stage_at w.place) (moved_place stage_at l.n l.places i w.place h.0)

  alone_put : OthersRest (stages l) i → Climbs w.x i (place_of (put l i w) i) → Alone (put l i w) i
  alone_put o c = record { sound = put_sound steps l s i h w m; here = h; others = others_put o; climbs = c }

-- one turn
climb : (l : Fast) (i : ℕ) → Alone l i → 0 < left l i → Alone (turned l i) i × (left (turned l i) i + 1 ≡ left l i)
climb l i a t =
    let s = a.sound in
    let h = a.here in
    let w = after l i in
    let m = turned_move l i in
    let trying = climbs_trying l.n l.registers.x l.registers.y i (place_of l i) a.climbs t in
    let c = lone_climbs l s i a.others h w m trying a.climbs in
    rw (turned_put l i h) (alone_put l s i h w m a.others c.0, c.1)

-- it begins with 5 turns to come
begins_alone : (l : Fast) (i : ℕ) → Sound l → AllRest (stages l) → Station (stages l) i → Alone (begun l i) i × (left (begun l i) i ≡ 5)
begins_alone l i s r t =
    let h = numbered fast_plan l i Rest (r i t) in
    let w = going l i Raise in
    let e = place_here l s i h w in
    rw (begun_at fast_plan l i (r i t) ∙ begun_put l s i (r i t)) (alone_put l s i h w (begun_move l s i (r i t)) (λ j u d. r j u) (rw e tt), rw e)

-- out again

record Stands (l : Fast) (i : ℕ) (p : Place) : Type 0 where
  sound : Sound l
  here : Numbered l i
  place : place_of l i ≡ p

asked_there : (l : Fast) (i : ℕ) (p : Place) → Stands l i p → asked (stages l) i ≡ Some (stage_at p)
asked_there l i p a = asked_at fast_plan l a.sound.places_fit i a.here ∙ ap (λ q. Some (stage_at q)) a.place

-- where the next turn leads to
turned_there : (l : Fast) (i : ℕ) (p : Place) → Stands l i p → Stands (turned l i) i (outcome l i p (access_at i p)).place
turned_there l i p a =
    let s = a.sound in
    let h = a.here in
    rw (turned_put l i h) (record {
      sound = put_sound steps l s i h (after l i) (turned_move l i);
      here = h;
      place = place_here l s i h (after l i) ∙ ap (λ q. (outcome l i q (access_at i q)).place) a.place;
    })

module _ (l : Fast) (i : ℕ) (s : Sound l) (a : asked (stages l) i ≡ Some Inside) where
  releases : Stands (ended l i) i Release
  releases =
      let h = numbered fast_plan l i Inside a in
      let w = going l i Release in
      rw (ended_at fast_plan l i a ∙ ended_put l s i a) (record { sound = put_sound steps l s i h w (ended_move l s i a); here = h; place = place_here l s i h w })

  clears : Stands (turned (ended l i) i) i Clear
  clears = turned_there (ended l i) i Release releases

  rests : Stands (turned (turned (ended l i) i) i) i Idle
  rests = turned_there (turned (ended l i) i) i Clear clears

leaving : (k : ℕ) (l : Fast) (i : ℕ) → Sound l → asked (stages l) i ≡ Some Inside → k < 2 → asked (stages (turns fast_meaning k (ended l i) i)) i ≡ Some Leaving
leaving zero l i s a m = asked_there (ended l i) i Release (releases l i s a)
leaving (suc zero) l i s a m = asked_there (turned (ended l i) i) i Clear (clears l i s a)
leaving (suc (suc k)) l i s a m = absurd (omega arith)

ascent : Ascent fast_meaning (λ _. 5)
ascent = record { Alone = Alone; begins = begins_alone; climbs = climb; tries = alone_trying; arrives = alone_inside }

pub exactly : Exactly fast_meaning (λ _. 5) (λ _. 2)
exactly = record {
  waits = λ l i k s r t. waits fast_meaning (λ _. 5) ascent l i s r t k;
  enters = λ l i s r t. enters fast_meaning (λ _. 5) ascent l i s r t;
  stays = λ l i k s a m. leaving k l i s a m;
  rests = λ l i s a. asked_there (turned (turned (ended l i) i) i) i Idle (rests l i s a);
}
