-- What the lock for one station means.
use Rattle.std.specs.Prelude.{ℕ, zero, suc, [], ◌∷◌}
use Rattle.lock.specs.declared.stage.Stage.{Stage}
use Rattle.lock.specs.declared.stage.Stage.TheVariants.{Rest, Trying, Inside, Leaving}
use Rattle.lock.specs.Meaning.{Meaning}
use Rattle.solo.specs.declared.Solo.{Solo}

abbrev pub at_rest : Solo
at_rest = record { only = Rest }

abbrev pub begin_at : Stage → Stage
begin_at Rest = Trying
begin_at Trying = Trying
begin_at Inside = Inside
begin_at Leaving = Leaving

abbrev pub turn_at : Stage → Stage
turn_at Rest = Rest
turn_at Trying = Inside
turn_at Inside = Inside
turn_at Leaving = Rest

abbrev pub end_at : Stage → Stage
end_at Rest = Rest
end_at Trying = Trying
end_at Inside = Leaving
end_at Leaving = Leaving

abbrev pub left_at : Stage → ℕ
left_at Rest = 0
left_at Trying = 1
left_at Inside = 0
left_at Leaving = 1

-- station 1 is the only one
abbrev pub for_one : (Stage → Stage) → Solo → ℕ → Solo
for_one f l zero = l
for_one f l (suc zero) = record { only = f l.only }
for_one f l (suc (suc k)) = l

abbrev pub solo_meaning : Meaning Solo
solo_meaning =
    record {
      stages = λ l. l.only ∷ [];
      begun = for_one begin_at;
      turned = for_one turn_at;
      ended = for_one end_at;
      sound = λ l. Unit {0};
      lone = λ l. 1;
      leave = λ l. 1;
      left = λ l i. left_at l.only;
    }
