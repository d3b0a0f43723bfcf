-- A lone station whose turns to come fall by exactly one with each turn: it is inside with the turn with which none is left, and not before.
use Rattle.std.proofs.Common.{◌≡◌, ℕ, zero, suc, ◌+◌, ◌<◌, ◌≤◌, List, length, Some, ap, ◌∙◌, arith}
use Rattle.lock.specs.declared.stage.Stage.{Stage}
use Rattle.lock.specs.declared.stage.Stage.TheVariants.{Trying, Inside}
use Rattle.lock.specs.Stages.{Station, asked, moved, OthersRest, AllRest}
use Rattle.lock.specs.Meaning.{Meaning, turns}
use Rattle.lock.proofs.Moves.{asked_others, length_moved}

-- what a station's own move leaves of the others
pub others_moved : (s t : List Stage) (i : ℕ) (x : Stage) → t ≡ moved s i x → OthersRest s i → OthersRest t i
others_moved s t i x e o j h d =
    let w : Station s j = (h.0, rw (e, length_moved s i x) at h.1) in
    ap (λ u. asked u j) e ∙ asked_others s i j x d ∙ o j w d

module _ {L : Type 0} (m : Meaning L) (enter : ℕ → ℕ) where
  pub record Ascent : Type 1 where
    -- of a station that tries while all others rest, or is inside then
    pub Alone : L → ℕ → Type 0
    pub begins : (l : L) (i : ℕ) → m.sound l → AllRest (m.stages l) → Station (m.stages l) i →
        Alone (m.begun l i) i × (m.left (m.begun l i) i ≡ enter (length (m.stages l)))
    pub climbs : (l : L) (i : ℕ) → Alone l i → 0 < m.left l i → Alone (m.turned l i) i × (m.left (m.turned l i) i + 1 ≡ m.left l i)
    pub tries : (l : L) (i : ℕ) → Alone l i → 0 < m.left l i → asked (m.stages l) i ≡ Some Trying
    pub arrives : (l : L) (i : ℕ) → Alone l i → m.left l i ≡ 0 → asked (m.stages l) i ≡ Some Inside

  module _ (a : Ascent) where
    climb_on : (k : ℕ) (l : L) (i : ℕ) → a.Alone l i → k ≤ m.left l i → a.Alone (turns m k l i) i × (m.left (turns m k l i) i + k ≡ m.left l i)
    climb_on zero l i h f = (h, omega arith)
    climb_on (suc k) l i h f =
        let one = a.climbs l i h (omega arith) in
        let more = climb_on k (m.turned l i) i one.0 (omega arith) in
        (more.0, omega arith)

    module _ (l : L) (i : ℕ) (s : m.sound l) (r : AllRest (m.stages l)) (t : Station (m.stages l) i) where
      pub waits : (k : ℕ) → k < enter (length (m.stages l)) → asked (m.stages (turns m k (m.begun l i) i)) i ≡ Some Trying
      waits k h =
          let b = a.begins l i s r t in
          let c = climb_on k (m.begun l i) i b.0 (omega arith) in
          a.tries (turns m k (m.begun l i) i) i c.0 (omega arith)

      pub enters : asked (m.stages (turns m (enter (length (m.stages l))) (m.begun l i) i)) i ≡ Some Inside
      enters =
          let n = enter (length (m.stages l)) in
          let b = a.begins l i s r t in
          let c = climb_on n (m.begun l i) i b.0 (omega arith) in
          a.arrives (turns m n (m.begun l i) i) i c.0 (omega arith)
