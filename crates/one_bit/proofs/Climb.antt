-- A station that is alone climbs: each turn is one fewer to come.
use Rattle.std.proofs.Common.{◌≡◌, ℕ, zero, suc, ◌+◌, ◌<◌, length, Some, ap, ◌∙◌, arith}
use Rattle.lock.specs.declared.stage.Stage.TheVariants.{Rest, Trying, Inside, Leaving}
use Rattle.lock.specs.Stages.{Station, asked, OthersRest, AllRest}
use Rattle.lock.specs.Meaning.{turns, Exactly}
use Rattle.lock.proofs.Exact.{others_moved, Ascent, waits, enters}
use Rattle.lock.proofs.Places.{moved_place}
use Rattle.one_bit.specs.declared.place.Place.{Place}
use Rattle.one_bit.specs.declared.place.Place.TheVariants.{Idle, Raise, Lower}
use Rattle.one_bit.specs.Places.{stage_at, to_come}
use Rattle.algorithm.specs.Turns as by
use Rattle.algorithm.proofs.Stations.{length_stages, asked_at, numbered}
use Rattle.algorithm.proofs.Laws.{begun_at, ended_at}
use Rattle.one_bit.specs.Plan.{OneBit, one_bit_plan, place_of, stages, turned}
use Rattle.one_bit.specs.Sound.{Numbered, Sound}
use Rattle.one_bit.specs.Meaning.{one_bit_meaning}
use Rattle.one_bit.specs.Put.{put, place_here}
use Rattle.one_bit.specs.Steps.{steps}
use Rattle.one_bit.proofs.Next.{Climbs, climbs_trying, climbs_inside, next_climbs, next_nearer}
use Rattle.one_bit.specs.Turn.{after, turned_put, turned_sound, alone_after}
use Rattle.one_bit.specs.Ends.{begun_put, begun_sound, ended_put, ended_sound}
use Rattle.one_bit.specs.Kept.{turned_kept, ended_kept}
use Rattle.one_bit.specs.Law.{lowered_put}

abbrev begun : OneBit → ℕ → OneBit
begun = by.begun one_bit_plan

abbrev ended : OneBit → ℕ → OneBit
ended = by.ended one_bit_plan

-- the turns to come of a station
abbrev left : OneBit → ℕ → ℕ
left l i = to_come l.n (place_of l i)

record Alone (l : OneBit) (i : ℕ) : Type 0 where
  sound : Sound l
  here : Numbered l i
  others : OthersRest (stages l) i
  climbs : Climbs (place_of l i)

module _ (l : OneBit) (s : Sound l) (i : ℕ) (h : Numbered l i) (p : Place) (s' : Sound (put l i p)) where
  asked-put : asked (stages (put l i p)) i ≡ Some (stage_at p)
  asked-put = asked_at one_bit_plan (put l i p) s'.places_fit i h ∙ ap (λ q. Some (stage_at q)) (place_here l s i h p)

  -- the others rest as they did
  others_put : OthersRest (stages l) i → OthersRest (stages (put l i p)) i
  others_put = others_moved (stages l) (stages (put l i p)) i (stage_at p) (moved_place stage_at l.n l.places i p h.0)

  alone_put : OthersRest (stages l) i → Climbs p → Alone (put l i p) i
  alone_put o c = record { sound = s'; here = h; others = others_put o; climbs = rw (place_here l s i h p) c }

-- with turns to come it is trying, and with none inside
alone_trying : (l : OneBit) (i : ℕ) → Alone l i → 0 < left l i → asked (stages l) i ≡ Some Trying
alone_trying l i a m = asked_at one_bit_plan l a.sound.places_fit i a.here ∙ ap Some (climbs_trying l.n (place_of l i) a.climbs m)

alone_inside : (l : OneBit) (i : ℕ) → Alone l i → left l i ≡ 0 → asked (stages l) i ≡ Some Inside
alone_inside l i a e =
    let s = a.sound in
    let h = a.here in
    asked_at one_bit_plan l s.places_fit i h ∙ ap Some (climbs_inside l.n i s.most h.0 h.1 (place_of l i) (s.ranged i h) a.climbs e)

-- one turn
climb : (l : OneBit) (i : ℕ) → Alone l i → 0 < left l i → Alone (turned l i) i × (left (turned l i) i + 1 ≡ left l i)
climb l i a m =
    let s = a.sound in
    let h = a.here in
    let p = place_of l i in
    let e = turned_put steps l s i h in
    let f = alone_after steps l s i h a.others in (
      rw e (alone_put l s i h (after l i) (turned_sound steps l s i h) a.others (rw f (next_climbs l.n i s.most h.0 h.1 p a.climbs))),
      rw (e, place_here l s i h (after l i), f) (next_nearer l.n i s.most h.0 h.1 p (s.ranged i h) a.climbs m),
    )

-- it begins with as many turns to come as there are stations
begins_alone : (l : OneBit) (i : ℕ) → Sound l → AllRest (stages l) → Station (stages l) i → Alone (begun l i) i × (left (begun l i) i ≡ length (stages l))
begins_alone l i s r t =
    let h = numbered one_bit_plan l i Rest (r i t) in
    let e = begun_at one_bit_plan l i (r i t) ∙ begun_put l s i (r i t) in
    (rw e (alone_put l s i h Raise (begun_sound l s i (r i t)) (λ j u d. r j u) tt), rw (e, place_here l s i h Raise, length_stages one_bit_plan l s.places_fit))

-- out again
leaving : (k : ℕ) (l : OneBit) (i : ℕ) → Sound l → asked (stages l) i ≡ Some Inside → k < 1 → asked (stages (turns one_bit_meaning k (ended l i) i)) i ≡ Some Leaving
leaving zero l i s a m = rw (ended_at one_bit_plan l i a ∙ ended_put l s i a) (asked-put l s i (numbered one_bit_plan l i Inside a) Lower (ended_sound l s i a))
leaving (suc k) l i s a m = absurd (omega arith)

rested : (l : OneBit) (i : ℕ) → Sound l → asked (stages l) i ≡ Some Leaving → asked (stages (turned l i)) i ≡ Some Rest
rested l i s a =
    let e = lowered_put steps l i s a in
    rw e (asked-put l s i (numbered one_bit_plan l i Leaving a) Idle (rw e at (turned_kept steps l i s (numbered one_bit_plan l i Leaving a)).sound))

ascent : Ascent one_bit_meaning (λ n. n)
ascent = record { Alone = Alone; begins = begins_alone; climbs = climb; tries = alone_trying; arrives = alone_inside }

pub exactly : Exactly one_bit_meaning (λ n. n) (λ _. 1)
exactly = record {
  waits = λ l i k s r t. waits one_bit_meaning (λ n. n) ascent l i s r t k;
  enters = λ l i s r t. enters one_bit_meaning (λ n. n) ascent l i s r t;
  stays = λ l i k s a m. leaving k l i s a m;
  rests = λ l i s a. rested (ended l i) i (rw (ended_at one_bit_plan l i a) (ended_kept l i s a).sound) (leaving 0 l i s a (omega arith));
}
