-- A list of stages that has at each place the stage that the events tell is the list of the stages told.
use Rattle.std.proofs.Common.{◌≡◌, ℕ, suc, ◌+◌, ◌<◌, ◌≤◌, List, [], ◌∷◌, map, length, Some, refl, ap, ◌∙◌, arith}
use Rattle.std.specs.List.{range_with_len, slice_get}
use Rattle.lock.specs.declared.stage.Stage.{Stage}
use Rattle.lock.specs.Stages.{asked}
use Rattle.runs.specs.declared.events.Event.{Event}
use Rattle.runs.specs.Told.{told, all_told}

module _ (es : List Event) where
  told_from-on : (s : List Stage) (i : ℕ) → ((k : ℕ) → k < length s → slice_get s k ≡ Some (told es (i + k))) → s ≡ map (told es) (range_with_len i (length s))
  told_from-on [] i h = refl
  told_from-on (x ∷ s) i h =
      let first = h 0 (omega arith) in
      let at_first : i + 0 ≡ i = omega arith in
      let same = ap (told es) at_first in
      let head : x ≡ told es i = cc in
      let others = told_from-on s (i + 1) (λ k less. let place : i + suc k ≡ i + 1 + k = omega arith in h (suc k) (omega arith) ∙ ap (λ z. Some (told es z)) place) in
      cc

  pub told_all : (s : List Stage) (n : ℕ) → length s ≡ n → ((i : ℕ) → 1 ≤ i → i ≤ n → asked s i ≡ Some (told es i)) → s ≡ all_told es n
  told_all s n size h =
      told_from-on s 1 (λ k less. let place : suc k ≡ 1 + k = omega arith in h (suc k) (omega arith) (omega arith) ∙ ap (λ z. Some (told es z)) place) ∙
      ap (all_told es) size
