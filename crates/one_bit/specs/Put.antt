-- A station put at a place, with the flag that goes with it. In a sound lock each function does this, or nothing.
use Rattle.std.specs.Prelude.{◌≡◌, ℕ, ◌-◌, ◌<◌, ◌≢◌, slice_set}
use Rattle.std.proofs.Common.{arith, length-set, get_or-set_same, get_or-set_other}
use Rattle.std.proofs.lemmas.List.{set-get_or}
use Rattle.std.proofs.lemmas.Bool.{cases_eq}
use Rattle.lock.specs.Stages.{moved}
use Rattle.lock.proofs.Places.{moved_place}
use Rattle.algorithm.specs.Turns.{with_place}
use Rattle.one_bit.specs.declared.place.Place.{Place}
use Rattle.one_bit.specs.Places.{stage_at, raised, reach, Ranged}
use Rattle.one_bit.specs.Plan.{OneBit, place_of, flag_of, stages}
use Rattle.one_bit.specs.Sound.{Numbered, Sound}

abbrev pub put : OneBit → ℕ → Place → OneBit
put l i p = record { n = l.n; registers = record { flags = record { raised = slice_set l.registers.flags.raised (i - 1) (raised p) } }; places = slice_set l.places (i - 1) p }

-- no other station that is passed at the place has passed this one
abbrev pub Clear : OneBit → ℕ → Place → Type 0
Clear l i p = (k : ℕ) → Numbered l k → (k ≢ i) → k < reach p → i < reach (place_of l k) → ⊥

module _ (l : OneBit) (s : Sound l) (i : ℕ) (h : Numbered l i) where
  -- where the flag is right already, and where the place is too
  pub put_place : (p : Place) → raised p ≡ raised (place_of l i) → with_place l i p ≡ put l i p
  put_place p e = let f = s.flags i h in grind (arith, set-get_or)

  pub put_same : put l i (place_of l i) ≡ l
  put_same = let f = s.flags i h in grind (arith, set-get_or)

  module _ (p : Place) where
    pub stages_put : stages (put l i p) ≡ moved (stages l) i (stage_at p)
    stages_put = moved_place stage_at l.n l.places i p h.0

    pub place_here : place_of (put l i p) i ≡ p
    place_here = grind (arith, get_or-set_same)

    pub place_other : (k : ℕ) → Numbered l k → (k ≢ i) → place_of (put l i p) k ≡ place_of l k
    place_other k w d = grind (arith, get_or-set_other)

    put_flags : (k : ℕ) → Numbered l k → flag_of (put l i p) k ≡ raised (place_of (put l i p) k)
    put_flags k w = let f = s.flags k w in grind (arith, cases_eq k i, get_or-set_same, get_or-set_other)

    put_ranged : Ranged l.n i p → (k : ℕ) → Numbered l k → Ranged l.n k (place_of (put l i p) k)
    put_ranged r k w = let t = s.ranged k w in let a = place_here in let b = place_other k w in grind (arith, cases_eq k i)

    put_apart : Clear l i p → (a k : ℕ) → Numbered l a → Numbered l k → (a ≢ k) → k < reach (place_of (put l i p) a) → a < reach (place_of (put l i p) k) → ⊥
    put_apart clear a k w v d m n =
        let here = place_here in
        let there = place_other a w in
        let away = place_other k v in
        let from_a = clear a w in
        let from_k = clear k v in
        let before = s.apart a k w v in
        grind (arith, cases_eq a i, cases_eq k i)

    pub put_sound : Ranged l.n i p → Clear l i p → Sound (put l i p)
    put_sound r clear = record {
      least = s.least;
      most = s.most;
      places_fit = simp length-set s.places_fit;
      flags_fit = simp length-set s.flags_fit;
      flags = put_flags;
      ranged = put_ranged r;
      apart = put_apart clear;
    }
