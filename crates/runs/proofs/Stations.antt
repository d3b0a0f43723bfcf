-- A station of a rack by its number: its stage, and what is kept of it.
use Rattle.std.proofs.Common.{◌≡◌, ℕ, ◌-◌, ◌≤◌, Bool, true, false, cond, eqb, ltb, ◌≢◌, List, length, get_or, set, Some, None, Option, refl, ◌∙◌, arith}
use Rattle.std.proofs.lemmas.Bool.{cond-false, ne_eqb, eqb-false, ltb-false, le-ltb}
use Rattle.std.proofs.lemmas.List.{get_or-set_same, get_or-set_other}
use Rattle.lock.specs.declared.stage.Stage.{Stage}
use Rattle.lock.specs.Stages.{asked}
use Rattle.lock.specs.Meaning.{Meaning}
use Rattle.rack.specs.Calls.{stage_of, idle}
use Rattle.rack.specs.declared.calls.Station.{Station}
use Rattle.rack.specs.declared.calls.Rack.{Rack}
use Rattle.runs.proofs.Tests.{never}

some_past : {X : Type 0} (b : Bool) (o : Option X) (x : X) → cond b None o ≡ Some x → (b ≡ false) × (o ≡ Some x)
some_past true o x e = never (cc)
some_past false o x e = (refl, e)

module _ {L : Type 0} (m : Meaning L) (r : Rack L) (i : ℕ) where
  -- a number with a stage is one of 1 to 16, and the stage is the lock's
  pub known_stage : (x : Stage) → stage_of m r i ≡ Some x → (asked (m.stages r.lock) i ≡ Some x) × (1 ≤ i) × (i ≤ 16)
  known_stage x e =
      let o : Option Stage = asked (m.stages r.lock) i in
      let (not_zero, past) = some_past (eqb i 0) (cond (ltb 16 i) None o) x e in
      let (not_above, there) = some_past (ltb 16 i) o x past in
      let p = eqb-false i 0 not_zero in
      (there, omega arith, ltb-false 16 i not_above)

  pub lock_stage : 1 ≤ i → i ≤ 16 → stage_of m r i ≡ asked (m.stages r.lock) i
  lock_stage least most = cond-false (eqb i 0) _ _ (ne_eqb i 0 (λ e. omega arith)) ∙ cond-false (ltb 16 i) _ _ (le-ltb 16 i most)

-- one station's part written: its own, and that of any other
module _ (ss : List Station) (i : ℕ) (new : Station) (least : 1 ≤ i) where
  pub kept_at : length ss ≡ 16 → i ≤ 16 → get_or (set ss (i - 1) new) (i - 1) idle ≡ new
  kept_at size most = get_or-set_same ss (i - 1) new idle (omega arith)

  pub kept_off : (j : ℕ) → 1 ≤ j → (j ≡ i → ⊥) → get_or (set ss (i - 1) new) (j - 1) idle ≡ get_or ss (j - 1) idle
  kept_off j low other = let apart : j - 1 ≢ i - 1 = λ e. other (omega arith) in get_or-set_other ss (i - 1) (j - 1) new idle apart
