-- What a lock means, and the laws that it owes.
use Rattle.std.specs.Prelude.{◌≡◌, ℕ, zero, suc, ◌<◌, ◌≤◌, true, false, ◌⊎◌, List, length, Some}
use Rattle.lock.specs.declared.stage.Stage.{Stage}
use Rattle.lock.specs.declared.stage.Stage.TheVariants.{Rest, Trying, Inside, Leaving}
use Rattle.lock.specs.Stages.{Station, asked, moved, OthersRest, AllRest, is_resting, is_moving, is_inside}

pub record Meaning (L : Type 0) : Type 1 where
  -- all that is known of a lock: the stage of each station
  pub stages : L → List Stage
  -- the lock after each function, for every number
  pub begun : L → ℕ → L
  pub turned : L → ℕ → L
  pub ended : L → ℕ → L
  -- holds of a fresh lock, and of every lock that the functions reach from it
  pub sound : L → Type 0
  -- the most turns that a lone trying station needs to get in, and a leaving station to rest
  pub lone : L → ℕ
  pub leave : L → ℕ
  -- each station's turns still to come, for the proof alone
  pub left : L → ℕ → ℕ

-- what a function keeps: soundness and the two numbers; and while a law of turns speaks, it raises no count of turns still to come
pub record Kept {L : Type 0} (m : Meaning L) (before after : L) : Type 0 where
  pub sound : m.sound after
  pub lone : m.lone after ≡ m.lone before
  pub leave : m.leave after ≡ m.leave before
  -- of a station that tries while all others rest
  pub trying : (i : ℕ) → asked (m.stages before) i ≡ Some Trying → OthersRest (m.stages before) i →
      asked (m.stages after) i ≡ Some Trying → OthersRest (m.stages after) i → m.left after i ≤ m.left before i
  -- of a station that leaves
  pub leaving : (i : ℕ) → asked (m.stages before) i ≡ Some Leaving → asked (m.stages after) i ≡ Some Leaving → m.left after i ≤ m.left before i

-- each law for every sound lock, and for every number
pub record Lawful {L : Type 0} (m : Meaning L) : Type 0 where
  -- there are 1 to 16 stations
  pub least : (l : L) → m.sound l → 1 ≤ length (m.stages l)
  pub most : (l : L) → m.sound l → length (m.stages l) ≤ 16
  -- begin takes a resting station to trying, and alters nothing else; in any other stage, and for any other number, nothing
  pub begins : (l : L) (i : ℕ) → m.sound l → is_resting (m.stages l) i ≡ true → m.stages (m.begun l i) ≡ moved (m.stages l) i Trying
  pub begins_not : (l : L) (i : ℕ) → m.sound l → is_resting (m.stages l) i ≡ false → m.stages (m.begun l i) ≡ m.stages l
  -- a turn leaves a trying station trying or takes it inside, and a leaving one leaving or to rest
  pub enters : (l : L) (i : ℕ) → m.sound l → asked (m.stages l) i ≡ Some Trying →
      (m.stages (m.turned l i) ≡ m.stages l) ⊎ (m.stages (m.turned l i) ≡ moved (m.stages l) i Inside)
  pub leaves : (l : L) (i : ℕ) → m.sound l → asked (m.stages l) i ≡ Some Leaving →
      (m.stages (m.turned l i) ≡ m.stages l) ⊎ (m.stages (m.turned l i) ≡ moved (m.stages l) i Rest)
  pub turns_not : (l : L) (i : ℕ) → m.sound l → is_moving (m.stages l) i ≡ false → m.stages (m.turned l i) ≡ m.stages l
  -- end takes a station from inside to leaving
  pub ends : (l : L) (i : ℕ) → m.sound l → is_inside (m.stages l) i ≡ true → m.stages (m.ended l i) ≡ moved (m.stages l) i Leaving
  pub ends_not : (l : L) (i : ℕ) → m.sound l → is_inside (m.stages l) i ≡ false → m.stages (m.ended l i) ≡ m.stages l
  -- the functions lead from sound locks to sound locks
  pub begun_kept : (l : L) (i : ℕ) → m.sound l → Kept m l (m.begun l i)
  pub turned_kept : (l : L) (i : ℕ) → m.sound l → Kept m l (m.turned l i)
  pub ended_kept : (l : L) (i : ℕ) → m.sound l → Kept m l (m.ended l i)
  -- mutual exclusion: two stations are never inside
  pub exclusive : (l : L) (i j : ℕ) → m.sound l → asked (m.stages l) i ≡ Some Inside → asked (m.stages l) j ≡ Some Inside → i ≡ j
  -- a station that tries while all others rest has at most the lone number of turns to come, and each turn of its own lowers them
  pub lone_bound : (l : L) (i : ℕ) → m.sound l → asked (m.stages l) i ≡ Some Trying → OthersRest (m.stages l) i → m.left l i ≤ m.lone l
  pub lone_falls : (l : L) (i : ℕ) → m.sound l → asked (m.stages l) i ≡ Some Trying → OthersRest (m.stages l) i →
      m.left (m.turned l i) i < m.left l i
  -- a leaving station has at most the leave number of turns to come, and each turn of its own lowers them
  pub leave_bound : (l : L) (i : ℕ) → m.sound l → asked (m.stages l) i ≡ Some Leaving → m.left l i ≤ m.leave l
  pub leave_falls : (l : L) (i : ℕ) → m.sound l → asked (m.stages l) i ≡ Some Leaving → m.left (m.turned l i) i < m.left l i

-- k turns of one station
abbrev pub turns : {L : Type 0} → Meaning L → ℕ → L → ℕ → L
turns m zero l i = l
turns m (suc k) l i = turns m k (m.turned l i) i

-- a lock whose lone cost is exact: a station that begins while all rest is inside with its turn `enter` and not before,
-- and from its end on at rest with its turn `leave` and not before, both given by the number of stations
pub record Exactly {L : Type 0} (m : Meaning L) (enter leave : ℕ → ℕ) : Type 0 where
  pub waits : (l : L) (i k : ℕ) → m.sound l → AllRest (m.stages l) → Station (m.stages l) i → k < enter (length (m.stages l)) →
      asked (m.stages (turns m k (m.begun l i) i)) i ≡ Some Trying
  pub enters : (l : L) (i : ℕ) → m.sound l → AllRest (m.stages l) → Station (m.stages l) i →
      asked (m.stages (turns m (enter (length (m.stages l))) (m.begun l i) i)) i ≡ Some Inside
  pub stays : (l : L) (i k : ℕ) → m.sound l → asked (m.stages l) i ≡ Some Inside → k < leave (length (m.stages l)) →
      asked (m.stages (turns m k (m.ended l i) i)) i ≡ Some Leaving
  pub rests : (l : L) (i : ℕ) → m.sound l → asked (m.stages l) i ≡ Some Inside →
      asked (m.stages (turns m (leave (length (m.stages l))) (m.ended l i) i)) i ≡ Some Rest
