-- The station inside that the board shows.
use Rattle.std.proofs.Common.{◌≡◌, ℕ, zero, suc, ◌≤◌, true, List, Some, sym, ap, ◌∙◌, inl, inr, arith}
use Rattle.std.proofs.lemmas.Bool.{cases_eq, cases_Bool, cond-true, cond-false}
use Rattle.lock.specs.declared.stage.Stage.{Stage}
use Rattle.lock.specs.declared.stage.Stage.TheVariants.{Inside}
use Rattle.lock.specs.Stages.{asked, inside, is_inside}
use Rattle.lock.proofs.Tests.{inside-asked}
use Rattle.rack.specs.Calls.{inside_among}
use Rattle.runs.proofs.Tests.{never}

module _ (s : List Stage) (i : ℕ) where
  -- who is shown is inside
  pub shown-inside : (k : ℕ) → inside_among s k ≡ Some i → asked s i ≡ Some Inside
  shown-inside zero e = never (cc)
  shown-inside (suc k) e = elim (cases_Bool (is_inside s (suc k))) [
    | inl t ↦
        (let shown = cond-true (is_inside s (suc k)) (Some (suc k)) (inside_among s k) t in
        let same : suc k ≡ i = cc in
        ap (asked s) (sym same) ∙ inside-asked s (suc k) t)
    | inr f ↦ shown-inside k (sym (cond-false (is_inside s (suc k)) (Some (suc k)) (inside_among s k) f) ∙ e)
  ]

  -- and who alone is inside is shown
  pub inside-shown : asked s i ≡ Some Inside → ((j : ℕ) → asked s j ≡ Some Inside → j ≡ i) → (k : ℕ) → 1 ≤ i → i ≤ k → inside_among s k ≡ Some i
  inside-shown here only zero least h = absurd (omega arith)
  inside-shown here only (suc k) least h = elim (cases_Bool (is_inside s (suc k))) [
    | inl t ↦ cond-true (is_inside s (suc k)) _ _ t ∙ ap Some (only (suc k) (inside-asked s (suc k) t))
    | inr f ↦ cond-false (is_inside s (suc k)) _ _ f ∙ (elim (cases_eq i (suc k)) [
      | inl d ↦ (let t : is_inside s (suc k) ≡ true = ap (is_inside s) (sym d) ∙ ap inside here in never (cc))
      | inr ne ↦ inside-shown here only k least (omega arith)
    ])
  ]
