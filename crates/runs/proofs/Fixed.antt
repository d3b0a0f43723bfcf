-- A lock on its way from the one that the rack was set up with: sound, with as many stations, and with the same two numbers.
use Rattle.std.proofs.Common.{◌≡◌, ℕ, length, refl, ap, ◌∙◌}
use Rattle.lock.specs.declared.stage.Stage.{Stage}
use Rattle.lock.specs.Stages.{moved}
use Rattle.lock.specs.Meaning.{Meaning, Kept}
use Rattle.lock.proofs.Moves.{length_moved}

pub record Fixed {L : Type 0} (m : Meaning L) (lock now : L) : Type 0 where
  pub sound : m.sound now
  pub number : length (m.stages now) ≡ length (m.stages lock)
  pub lone : m.lone now ≡ m.lone lock
  pub leave : m.leave now ≡ m.leave lock

module _ {L : Type 0} (m : Meaning L) (lock : L) where
  pub fixed_first : m.sound lock → Fixed m lock lock
  fixed_first s = record { sound = s; number = refl; lone = refl; leave = refl }

  -- one function later
  pub fixed_more : {now then : L} → Fixed m lock now → Kept m now then → (i : ℕ) (x : Stage) → m.stages then ≡ moved (m.stages now) i x → Fixed m lock then
  fixed_more {now} F K i x e =
      record {
        sound = K.sound;
        number = ap length e ∙ length_moved (m.stages now) i x ∙ F.number;
        lone = K.lone ∙ F.lone;
        leave = K.leave ∙ F.leave;
      }
