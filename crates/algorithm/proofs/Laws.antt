-- The laws that a lock by an algorithm owes, from what is particular to the algorithm.
use Rattle.std.proofs.Common.{◌≡◌, ℕ, ◌-◌, ◌<◌, ◌≤◌, true, false, ◌⊎◌, length, is_some, None, Some, Ok, Option, refl, sym, ap, ◌∙◌, inl, inr, ⊎_elim, arith}
use Rattle.std.proofs.lemmas.Bool.{cases_Bool}
use lib.ListN.{get_or-replicate}
use Rattle.bus.specs.declared.Access.{Access}
use Rattle.lock.specs.declared.stage.Stage.{Stage}
use Rattle.lock.specs.declared.stage.Stage.TheVariants.{Rest, Trying, Inside, Leaving}
use Rattle.lock.specs.Stages.{asked, moved, resting, moving, inside, OthersRest, is_resting, is_moving, is_inside}
use Rattle.lock.specs.Meaning.{Meaning, Kept, Lawful}
use Rattle.lock.specs.Fresh.{Fresh}
use Rattle.lock.proofs.Moves.{moved_same}
use Rattle.lock.proofs.Places.{asked_outside, moved_place}
use Rattle.lock.proofs.Tests.{resting-asked, inside-asked}
use Rattle.algorithm.specs.declared.PlaceLock.{PlaceLock}
use Rattle.algorithm.specs.Plan.{Plan, Coherent}
use Rattle.algorithm.specs.Turns.{place_of, stages, fresh, made_for, with_place, with_registers, stepped, turned, begun, ended}
use Rattle.algorithm.specs.Meaning.{Claims, meaning_by}
use Rattle.algorithm.proofs.Stations.{Within, Outside, place_in, in_or_out, moving_access, length_stages, asked_at, numbered, stage_there}

module _ {P M R V : Type 0} (a : Plan P M R V) (l : PlaceLock P M) (i : ℕ) where
  -- a station that goes to a place moves to its stage
  stages_with : 1 ≤ i → (p : P) → stages a (with_place l i p) ≡ moved (stages a l) i (a.stage_at p)
  stages_with h p = let e = moved_place a.stage_at l.n l.places i p h in grind arith

  -- where there is nothing to do
  pub begun_same : is_resting (stages a l) i ≡ false → begun a l i ≡ l
  begun_same r = grind arith

  pub ended_same : is_inside (stages a l) i ≡ false → ended a l i ≡ l
  ended_same r = grind arith

  still : Outside a l i → is_moving (stages a l) i ≡ false
  still o = let e = asked_outside a.stage_at l.n l.places i o in grind arith

  -- where there is something
  begun_there : is_resting (stages a l) i ≡ true → begun a l i ≡ with_place l i a.entry
  begun_there r = grind arith

  ended_there : is_inside (stages a l) i ≡ true → ended a l i ≡ with_place l i a.exit
  ended_there r = grind arith

  pub begun_at : asked (stages a l) i ≡ Some Rest → begun a l i ≡ with_place l i a.entry
  begun_at r = begun_there (ap resting r)

  pub ended_at : asked (stages a l) i ≡ Some Inside → ended a l i ≡ with_place l i a.exit
  ended_at r = ended_there (ap inside r)

module _ {P M R V : Type 0} (a : Plan P M R V) (value_of : M → R → V) (with_value : M → R → V → M) (l : PlaceLock P M) (i : ℕ) where
  step_same : (o : Option (Access R V)) → (p : P) → is_some o ≡ false → stepped a value_of with_value l i p o ≡ l
  step_same o p e = grind arith

  pub turned_same : Coherent a → is_moving (stages a l) i ≡ false → turned a value_of with_value l i ≡ l
  turned_same co m = step_same (a.access_at i (place_of a l i)) (place_of a l i) (sym (moving_access a l i co) ∙ m)

  -- a number that is no station's makes no access
  pub turned_outside : Coherent a → Outside a l i → turned a value_of with_value l i ≡ l
  turned_outside co o = turned_same co (still a l i o)

  -- a turn moves its station to the stage of a place that follows
  step_stages : 1 ≤ i → (p : P) (o : Option (Access R V)) → is_some o ≡ true →
      (v : V) × (stages a (stepped a value_of with_value l i p o) ≡ moved (stages a l) i (a.stage_at (a.next l.n i p v)))
  step_stages h p None s = cc
  step_stages h p (Some x) s = (_, stages_with a (with_registers l _) i h _)

module _ {P M R V : Type 0} (a : Plan P M R V) (value_of : M → R → V) (with_value : M → R → V → M) (c : Claims (PlaceLock P M)) where
  abbrev m : Meaning (PlaceLock P M)
  m = meaning_by a value_of with_value c

  -- what is left to show of one algorithm
  pub record Particulars : Type 0 where
    pub least : (l : PlaceLock P M) → c.sound l → 1 ≤ l.n
    pub most : (l : PlaceLock P M) → c.sound l → l.n ≤ 16
    pub places_fit : (l : PlaceLock P M) → c.sound l → l.n ≤ length l.places
    -- the stages of the places where a station begins and ends, and of those that follow one where it tries or leaves
    pub entry : a.stage_at a.entry ≡ Trying
    pub exit : a.stage_at a.exit ≡ Leaving
    pub trying_on : (n i : ℕ) (p : P) (v : V) → a.stage_at p ≡ Trying → (a.stage_at (a.next n i p v) ≡ Trying) ⊎ (a.stage_at (a.next n i p v) ≡ Inside)
    pub leaving_on : (n i : ℕ) (p : P) (v : V) → a.stage_at p ≡ Leaving → (a.stage_at (a.next n i p v) ≡ Leaving) ⊎ (a.stage_at (a.next n i p v) ≡ Rest)
    -- what is kept where there is something to do
    pub begun_kept : (l : PlaceLock P M) (i : ℕ) → c.sound l → asked (stages a l) i ≡ Some Rest → Kept m l (with_place l i a.entry)
    pub ended_kept : (l : PlaceLock P M) (i : ℕ) → c.sound l → asked (stages a l) i ≡ Some Inside → Kept m l (with_place l i a.exit)
    pub turned_kept : (l : PlaceLock P M) (i : ℕ) → c.sound l → Within a l i → Kept m l (turned a value_of with_value l i)
    -- of the laws, word for word
    pub exclusive : (l : PlaceLock P M) (i j : ℕ) → c.sound l → asked (stages a l) i ≡ Some Inside → asked (stages a l) j ≡ Some Inside → i ≡ j
    pub lone_bound : (l : PlaceLock P M) (i : ℕ) → c.sound l → asked (stages a l) i ≡ Some Trying → OthersRest (stages a l) i → c.left l i ≤ c.lone l
    pub lone_falls : (l : PlaceLock P M) (i : ℕ) → c.sound l → asked (stages a l) i ≡ Some Trying → OthersRest (stages a l) i →
        c.left (turned a value_of with_value l i) i < c.left l i
    pub leave_bound : (l : PlaceLock P M) (i : ℕ) → c.sound l → asked (stages a l) i ≡ Some Leaving → c.left l i ≤ c.leave l
    pub leave_falls : (l : PlaceLock P M) (i : ℕ) → c.sound l → asked (stages a l) i ≡ Some Leaving → c.left (turned a value_of with_value l i) i < c.left l i

  kept_same : (l l' : PlaceLock P M) → c.sound l → l' ≡ l → Kept m l l'
  kept_same l l' s e = rw e (record { sound = s; lone = refl; leave = refl; trying = λ i b o t q. omega arith; leaving = λ i b t. omega arith })

  module _ (co : Coherent a) (x : Particulars) (l : PlaceLock P M) (i : ℕ) (s : c.sound l) where
    begins : is_resting (stages a l) i ≡ true → stages a (begun a l i) ≡ moved (stages a l) i Trying
    begins r =
        let h = numbered a l i Rest (resting-asked (stages a l) i r) in
        ap (stages a) (begun_there a l i r) ∙ stages_with a l i h.0 a.entry ∙ ap (moved (stages a l) i) x.entry

    ends : is_inside (stages a l) i ≡ true → stages a (ended a l i) ≡ moved (stages a l) i Leaving
    ends r =
        let h = numbered a l i Inside (inside-asked (stages a l) i r) in
        ap (stages a) (ended_there a l i r) ∙ stages_with a l i h.0 a.exit ∙ ap (moved (stages a l) i) x.exit

    begun_kept : Kept m l (begun a l i)
    begun_kept = ⊎_elim
        (λ r. rw (begun_there a l i r) (x.begun_kept l i s (resting-asked (stages a l) i r)))
        (λ r. kept_same l (begun a l i) s (begun_same a l i r))
        (cases_Bool (is_resting (stages a l) i))

    ended_kept : Kept m l (ended a l i)
    ended_kept = ⊎_elim
        (λ r. rw (ended_there a l i r) (x.ended_kept l i s (inside-asked (stages a l) i r)))
        (λ r. kept_same l (ended a l i) s (ended_same a l i r))
        (cases_Bool (is_inside (stages a l) i))

    turned_kept : Kept m l (turned a value_of with_value l i)
    turned_kept = ⊎_elim
        (λ h. x.turned_kept l i s h.0)
        (λ o. kept_same l (turned a value_of with_value l i) s (turned_outside a value_of with_value l i co o))
        (in_or_out a l i)

    -- a station that a turn moves
    stages_turned : (z : Stage) → asked (stages a l) i ≡ Some z → moving (Some z) ≡ true →
        (v : V) × (stages a (turned a value_of with_value l i) ≡ moved (stages a l) i (a.stage_at (a.next l.n i (place_of a l i) v)))
    stages_turned z b t =
        let h = numbered a l i z b in
        step_stages a value_of with_value l i h.0 (place_of a l i) (a.access_at i (place_of a l i)) (sym (moving_access a l i co) ∙ ap moving b ∙ t)

    enters : asked (stages a l) i ≡ Some Trying → (stages a (turned a value_of with_value l i) ≡ stages a l) ⊎ (stages a (turned a value_of with_value l i) ≡ moved (stages a l) i Inside)
    enters b =
        let t = stages_turned Trying b refl in
        ⊎_elim
        (λ e. inl (t.1 ∙ ap (moved (stages a l) i) e ∙ moved_same (stages a l) i Trying b))
        (λ e. inr (t.1 ∙ ap (moved (stages a l) i) e))
        (x.trying_on l.n i (place_of a l i) t.0 (stage_there a l (x.places_fit l s) i Trying b))

    leaves : asked (stages a l) i ≡ Some Leaving → (stages a (turned a value_of with_value l i) ≡ stages a l) ⊎ (stages a (turned a value_of with_value l i) ≡ moved (stages a l) i Rest)
    leaves b =
        let t = stages_turned Leaving b refl in
        ⊎_elim
        (λ e. inl (t.1 ∙ ap (moved (stages a l) i) e ∙ moved_same (stages a l) i Leaving b))
        (λ e. inr (t.1 ∙ ap (moved (stages a l) i) e))
        (x.leaving_on l.n i (place_of a l i) t.0 (stage_there a l (x.places_fit l s) i Leaving b))

  pub lawful_by : Coherent a → Particulars → Lawful m
  lawful_by co x = record {
    least = λ l s. rw (length_stages a l (x.places_fit l s)) (x.least l s);
    most = λ l s. rw (length_stages a l (x.places_fit l s)) (x.most l s);
    begins = λ l i s. begins co x l i s;
    begins_not = λ l i s r. ap (stages a) (begun_same a l i r);
    enters = λ l i s. enters co x l i s;
    leaves = λ l i s. leaves co x l i s;
    turns_not = λ l i s r. ap (stages a) (turned_same a value_of with_value l i co r);
    ends = λ l i s. ends co x l i s;
    ends_not = λ l i s r. ap (stages a) (ended_same a l i r);
    begun_kept = λ l i s. begun_kept co x l i s;
    turned_kept = λ l i s. turned_kept co x l i s;
    ended_kept = λ l i s. ended_kept co x l i s;
    exclusive = x.exclusive;
    lone_bound = x.lone_bound;
    lone_falls = x.lone_falls;
    leave_bound = x.leave_bound;
    leave_falls = x.leave_falls;
  }

-- for 1 to 16 stations a lock is made
pub made : {P M R V : Type 0} (a : Plan P M R V) (n : ℕ) → 1 ≤ n → n ≤ 16 → Ok (fresh a n) ≡ made_for a n
made a n least most = grind arith

-- a fresh lock: all its stations rest
module _ {P M R V : Type 0} (a : Plan P M R V) (co : Coherent a) (n : ℕ) (most : n ≤ 16) where
  pub idle_at : (i : ℕ) → Within a (fresh a n) i → place_of a (fresh a n) i ≡ a.idle
  idle_at i h = place_in a (fresh a n) i h ∙ get_or-replicate 16 (i - 1) a.idle a.idle (omega arith)

  pub fresh_by : (value_of : M → R → V) (with_value : M → R → V → M) (c : Claims (PlaceLock P M)) → c.sound (fresh a n) →
      Fresh (meaning_by a value_of with_value c) n (fresh a n)
  fresh_by value_of with_value c s = record {
    sound = s;
    resting = λ j t.
        let h : Within a (fresh a n) j = (t.0, rw (length_stages a (fresh a n) most) at t.1) in
        asked_at a (fresh a n) most j h ∙ ap (λ p. Some (a.stage_at p)) (idle_at j h) ∙ ap Some co.rests;
    size = length_stages a (fresh a n) most;
  }
