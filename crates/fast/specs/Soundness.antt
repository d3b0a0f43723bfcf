-- A move leads from a sound lock to a sound lock: each fact of one station, and of two, by which of them has moved.
use Rattle.std.specs.Prelude.{◌≡◌, ℕ, ◌≢◌, refl}
use Rattle.std.proofs.Common.{sym, ⊎_elim, length-set}
use Rattle.std.proofs.lemmas.Bool.{cases_eq}
use Rattle.fast.specs.Plan.{Fast, place_of, flag_of}
use Rattle.fast.specs.Sound.{Numbered, Own, Pair, Sound}
use Rattle.fast.specs.Moves.{Outcome, put, Move}
use Rattle.fast.specs.Put.{place_here, flag_here, place_there, flag_there}
use Rattle.fast.specs.Steps.{EveryStep}

module _ (steps : EveryStep) (l : Fast) (s : Sound l) (i : ℕ) (h : Numbered l i) (w : Outcome) (m : Move l i (place_of l i) w) where
  abbrev OwnAfter : ℕ → Type 0
  OwnAfter k = Own l.n w.x w.y k (flag_of (put l i w) k) (place_of (put l i w) k)

  abbrev PairAfter : ℕ → ℕ → Type 0
  PairAfter k j = Pair w.x w.y k j (flag_of (put l i w) k) (place_of (put l i w) k) (place_of (put l i w) j)

  own_here : OwnAfter i
  own_here = rw (flag_here l s i h w, place_here l s i h w) ((steps l i (place_of l i) w m).own_moved h.0 s.least (s.own i h))

  module _ (k : ℕ) (v : Numbered l k) (other : k ≡ i → ⊥) where
    own_there : OwnAfter k
    own_there =
        rw (flag_there l s i h w k v other, place_there l s i h w k v other)
        ((steps l i (place_of l i) w m).own_kept k h.0 v.0 v.1 other (flag_of l k) (place_of l k) refl
        (s.own i h) (s.own k v) (s.pair i k h v (λ e. other (sym e))) (s.pair k i v h other))

    from_here : PairAfter i k
    from_here =
        rw (flag_here l s i h w, place_here l s i h w, place_there l s i h w k v other)
        ((steps l i (place_of l i) w m).pair_from k h.0 v.0 v.1 other (flag_of l k) (place_of l k) refl
        (s.own i h) (s.own k v) (s.pair i k h v (λ e. other (sym e))) (s.pair k i v h other))

    to_here : PairAfter k i
    to_here =
        rw (flag_there l s i h w k v other, place_there l s i h w k v other, place_here l s i h w)
        ((steps l i (place_of l i) w m).pair_to k h.0 v.0 v.1 other (flag_of l k) (place_of l k) refl
        (s.own i h) (s.own k v) (s.pair i k h v (λ e. other (sym e))) (s.pair k i v h other))

    elsewhere : (j : ℕ) → Numbered l j → (j ≢ i) → (k ≢ j) → PairAfter k j
    elsewhere j u away two =
        rw (flag_there l s i h w k v other, place_there l s i h w k v other, place_there l s i h w j u away)
        ((steps l i (place_of l i) w m).pair_kept k h.0 v.0 v.1 other (flag_of l k) (place_of l k) j (place_of l j) away (s.pair k j v u two))

  own_after : (k : ℕ) → Numbered l k → OwnAfter k
  own_after k v = ⊎_elim (λ e. rw e own_here) (own_there k v) (cases_eq k i)

  pair_after : (k j : ℕ) → Numbered l k → Numbered l j → (k ≢ j) → PairAfter k j
  pair_after k j v u two =
      ⊎_elim
      (λ (e : k ≡ i). rw e (from_here j u (λ d. two (cc))))
      (λ (away : k ≡ i → ⊥). ⊎_elim (λ (e : j ≡ i). rw e (to_here k v away)) (λ other. elsewhere k v away j u other two) (cases_eq j i))
      (cases_eq k i)

  pub put_sound : Sound (put l i w)
  put_sound = record {
    least = s.least;
    most = s.most;
    places_fit = simp length-set s.places_fit;
    flags_fit = simp length-set s.flags_fit;
    y_named = (steps l i (place_of l i) w m).y_named h.1 s.y_named;
    own = own_after;
    pair = pair_after;
  }
