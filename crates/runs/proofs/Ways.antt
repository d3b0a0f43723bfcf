-- A station on its way from one stage to another, turn by turn: how many turns it has made, and when it arrives.
use Rattle.std.proofs.Common.{◌≡◌, ℕ, zero, suc, ◌+◌, ◌<◌, ◌≤◌, Some, sym, refl, ap, ◌∙◌, subst, inl, inr, arith}
use Rattle.std.proofs.lemmas.Bool.{cases_lt}
use Rattle.lock.specs.declared.stage.Stage.{Stage}
use Rattle.lock.specs.Stages.{asked}
use Rattle.lock.specs.Meaning.{Meaning, turns}

-- the last turn outside
turns_more : {L : Type 0} (m : Meaning L) (i k : ℕ) (l : L) → turns m (suc k) l i ≡ m.turned (turns m k l i) i
turns_more m i zero l = refl
turns_more m i (suc k) l = turns_more m i k (m.turned l i)

-- station i on its way from stage x to stage y, which began with the lock `first` and takes at most `limit` turns
module _ {L : Type 0} (m : Meaning L) (i : ℕ) (x y : Stage) (limit : ℕ) (first : L) where
  -- the way takes exactly t turns
  pub record Takes (t : ℕ) : Type 0 where
    pub before : (k : ℕ) → k < t → asked (m.stages (turns m k first i)) i ≡ Some x
    pub then : asked (m.stages (turns m t first i)) i ≡ Some y

  -- it has made k turns, and is not there yet
  pub record OnWay (k : ℕ) (now : L) : Type 0 where
    pub lock_is : now ≡ turns m k first i
    pub few : k + m.left now i ≤ limit
    pub early : (t : ℕ) → Takes t → k < t

  -- it arrived with turn k
  pub record Arrived (k : ℕ) : Type 0 where
    pub few : k ≤ limit
    pub exact : (t : ℕ) → Takes t → k ≡ t

  module _ (differ : x ≡ y → ⊥) where
    not_yet : (t k : ℕ) → Takes t → k ≤ t → asked (m.stages (turns m k first i)) i ≡ Some x → k < t
    not_yet t k T le e = elim (cases_lt k t) [
      | inl less ↦ less
      | inr more ↦
          (let same : t ≡ k = omega arith in
          let there : asked (m.stages (turns m k first i)) i ≡ Some y = subst (λ z. asked (m.stages (turns m z first i)) i ≡ Some y) same T.then in
          absurd (differ (cc)))
    ]

    just_then : (t k : ℕ) → Takes t → k ≤ t → asked (m.stages (turns m k first i)) i ≡ Some y → k ≡ t
    just_then t k T le e = elim (cases_lt k t) [ inl less ↦ (let there = T.before k less in absurd (differ (cc))) | inr more ↦ omega arith ]

    pub sets_out : m.left first i ≤ limit → asked (m.stages first) i ≡ Some x → OnWay 0 first
    sets_out few here = record { lock_is = refl; few = omega arith; early = λ t T. not_yet t 0 T (omega arith) here }

    -- one turn more, which lowers the turns still to come
    module _ (k : ℕ) (now : L) (W : OnWay k now) (falls : m.left (m.turned now i) i < m.left now i) where
      after_turn : m.turned now i ≡ turns m (suc k) first i
      after_turn = ap (λ z. m.turned z i) W.lock_is ∙ sym (turns_more m i k first)

      pub goes_further : asked (m.stages (m.turned now i)) i ≡ Some x → OnWay (suc k) (m.turned now i)
      goes_further here =
          let few = W.few in
          record {
            lock_is = after_turn;
            few = omega arith;
            early = λ t T. not_yet t (suc k) T (W.early t T) (subst (λ z. asked (m.stages z) i ≡ Some x) after_turn here);
          }

      pub arrives : asked (m.stages (m.turned now i)) i ≡ Some y → Arrived (suc k)
      arrives here =
          let few = W.few in
          record {
            few = omega arith;
            exact = λ t T. just_then t (suc k) T (W.early t T) (subst (λ z. asked (m.stages z) i ≡ Some y) after_turn here);
          }
