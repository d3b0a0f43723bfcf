-- A count that each turn lowers comes to its end: by induction on a number that the count does not exceed.
use Rattle.std.proofs.Common.{◌≡◌, ℕ, zero, suc, ◌≤◌, Some, sym, ap, ◌∙◌, subst, ⊎_elim, arith}
use Rattle.lock.specs.declared.stage.Stage.{Stage}
use Rattle.lock.specs.declared.stage.Stage.TheVariants.{Rest, Trying, Inside, Leaving}
use Rattle.lock.specs.Stages.{asked, moved, OthersRest}
use Rattle.lock.specs.Meaning.{Meaning, Lawful, turns}
use Rattle.lock.specs.InTime.{LoneGetsIn, LeaverRests}
use Rattle.lock.proofs.Moves.{asked-moved, asked_station}

module _ {L : Type 0} (m : Meaning L) (laws : Lawful m) where
  -- after at most f turns of station i its stage is x
  abbrev Reaches : ℕ → L → ℕ → Stage → Type 0
  Reaches f l i x = (k : ℕ) × ((k ≤ f) × (asked (m.stages (turns m k l i)) i ≡ Some x))

  -- one turn ahead of the rest, or the turn that leads there
  later : (f : ℕ) (l : L) (i : ℕ) (x : Stage) → Reaches f (m.turned l i) i x → Reaches (suc f) l i x
  later f l i x r = (suc r.0, (omega arith, r.1.1))

  now_there : (f : ℕ) (l : L) (i : ℕ) (was x : Stage) → asked (m.stages l) i ≡ Some was → m.stages (m.turned l i) ≡ moved (m.stages l) i x → Reaches (suc f) l i x
  now_there f l i was x a e = (1, (omega arith, ap (λ s. asked s i) e ∙ asked-moved (m.stages l) i x (asked_station (m.stages l) i was a)))

  enters_within : (f : ℕ) (l : L) (i : ℕ) → m.sound l → asked (m.stages l) i ≡ Some Trying → OthersRest (m.stages l) i → m.left l i ≤ f → Reaches f l i Inside
  enters_within zero l i s a o h = let falls = laws.lone_falls l i s a o in absurd (omega arith)
  enters_within (suc f) l i s a o h =
      let falls = laws.lone_falls l i s a o in
      ⊎_elim
      (λ (e : m.stages (m.turned l i) ≡ m.stages l).
      later f l i Inside
      (enters_within f (m.turned l i) i (laws.turned_kept l i s).sound (ap (λ t. asked t i) e ∙ a) (subst (λ t. OthersRest t i) (sym e) o) (omega arith)))
      (λ e. now_there f l i Trying Inside a e)
      (laws.enters l i s a)

  rests_within : (f : ℕ) (l : L) (i : ℕ) → m.sound l → asked (m.stages l) i ≡ Some Leaving → m.left l i ≤ f → Reaches f l i Rest
  rests_within zero l i s a h = let falls = laws.leave_falls l i s a in absurd (omega arith)
  rests_within (suc f) l i s a h =
      let falls = laws.leave_falls l i s a in
      ⊎_elim
      (λ (e : m.stages (m.turned l i) ≡ m.stages l).
      later f l i Rest (rests_within f (m.turned l i) i (laws.turned_kept l i s).sound (ap (λ t. asked t i) e ∙ a) (omega arith)))
      (λ e. now_there f l i Leaving Rest a e)
      (laws.leaves l i s a)

  pub lone_gets_in : LoneGetsIn m
  lone_gets_in l i s a o = enters_within (m.lone l) l i s a o (laws.lone_bound l i s a o)

  pub leaver_rests : LeaverRests m
  leaver_rests l i s a = rests_within (m.leave l) l i s a (laws.leave_bound l i s a)
