-- What a function of a lock leaves, as one stage moved.
use Rattle.std.proofs.Common.{◌≡◌, ℕ, ◌⊎◌, List, length, Some, sym, ap, ◌∙◌, inl, inr, arith}
use Rattle.lock.specs.declared.stage.Stage.{Stage}
use Rattle.lock.specs.declared.stage.Stage.TheVariants.{Rest, Trying, Inside, Leaving}
use Rattle.lock.specs.Stages.{asked, moved, OthersRest}
use Rattle.lock.specs.Meaning.{Meaning, Lawful}
use Rattle.lock.proofs.Moves.{asked-moved, asked_others, moved_same, length_moved, asked_station}

-- the station is then at that stage, and all others rest if they did
module _ (s : List Stage) (i : ℕ) (is : Stage) {s' : List Stage} (moves : s' ≡ moved s i is) where
  pub stage_after : (was : Stage) → asked s i ≡ Some was → asked s' i ≡ Some is
  stage_after was here = ap (λ z. asked z i) moves ∙ asked-moved s i is (asked_station s i was here)

  pub others_after : OthersRest s i → OthersRest s' i
  others_after rest j (low, high) ne =
      let same = (ap length moves ∙ length_moved s i is) in
      ap (λ z. asked z j) moves ∙ asked_others s i j is ne ∙ rest j (low, omega arith) ne

module _ {L : Type 0} (m : Meaning L) (laws : Lawful m) (l : L) (i : ℕ) (sound : m.sound l) where
  stays : (was : Stage) → asked (m.stages l) i ≡ Some was → m.stages (m.turned l i) ≡ m.stages l → m.stages (m.turned l i) ≡ moved (m.stages l) i was
  stays was here e = e ∙ sym (moved_same (m.stages l) i was here)

  pub trying_turn : asked (m.stages l) i ≡ Some Trying →
      (m.stages (m.turned l i) ≡ moved (m.stages l) i Trying) ⊎ (m.stages (m.turned l i) ≡ moved (m.stages l) i Inside)
  trying_turn here = elim (laws.enters l i sound here) [ inl e ↦ inl (stays Trying here e) | inr e ↦ inr e ]

  pub leaving_turn : asked (m.stages l) i ≡ Some Leaving →
      (m.stages (m.turned l i) ≡ moved (m.stages l) i Leaving) ⊎ (m.stages (m.turned l i) ≡ moved (m.stages l) i Rest)
  leaving_turn here = elim (laws.leaves l i sound here) [ inl e ↦ inl (stays Leaving here e) | inr e ↦ inr e ]
