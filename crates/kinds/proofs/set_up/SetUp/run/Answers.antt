-- The lock of each kind is fresh where it is made, and its lone cost is exact.
use Rattle.std.proofs.Common.{◌≡◌, ◌+◌, ℕ, cond, ◌||◌, ◌==◌, nat_lt, Result, Ok, Err, refl, arith, rules}
use Rattle.lock.specs.declared.count.WrongStationCount.{WrongStationCount}
use Rattle.algorithm.specs.declared.PlaceLock.{PlaceLock}
use Rattle.fast.specs.Meaning.{fast_meaning}
use Rattle.fast.specs.Plan.{fresh as fresh_fast}
use Rattle.fast.proofs.Climb as fast_climb
use Rattle.one_bit.specs.Meaning.{one_bit_meaning}
use Rattle.one_bit.specs.Plan.{fresh as fresh_one_bit}
use Rattle.one_bit.proofs.Climb as one_bit_climb
use Rattle.kinds.proofs.Kept.{kept}
use Rattle.kinds.proofs.set_up.SetUp.run.Goals as goal

pub returns-in-Fast-clause-keeps : goal.returns-in-Fast-clause-keeps
returns-in-Fast-clause-keeps c =
    let x = c.args.self in
    let ran = c.run_if_made in
    let keeps = kept fast_meaning (fresh_fast x.stations) x.stations x.start c.args.calls.now (λ _. 5) (λ _. 2) fast_climb.exactly 7 refl _ _ c.new-lock.result ran.result
    c.new-lock.ensures.value c.new-lock.ensures.fresh ran.ensures.does ran.ensures.keeps in
    search rules

pub returns-in-OneBit-clause-keeps : goal.returns-in-OneBit-clause-keeps
returns-in-OneBit-clause-keeps c =
    let x = c.args.self in
    let ran = c.run_if_made-in-OneBit in
    let keeps = kept one_bit_meaning (fresh_one_bit x.stations) x.stations x.start c.args.calls.now (λ k. k) (λ _. 1) one_bit_climb.exactly (x.stations + 1) refl _ _
    c.new-lock-in-OneBit.result ran.result c.new-lock-in-OneBit.ensures.value c.new-lock-in-OneBit.ensures.fresh ran.ensures.does ran.ensures.keeps in
    search rules

-- what `new` made, written out
abbrev Made : {P M : Type 0} → (ℕ → PlaceLock P M) → ℕ → Result (PlaceLock P M) WrongStationCount → Type 0
Made fresh n r = r ≡ cond (n == 0 || nat_lt 16 n) (Err (record {})) (Ok (fresh n))

pub returns-in-Fast-clause-throughout : goal.returns-in-Fast-clause-throughout
returns-in-Fast-clause-throughout c =
    let n = c.args.self.stations in
    let made : Made fresh_fast n c.new-lock.result = c.new-lock.ensures.value in
    grind (arith, made)

pub returns-in-Fast-clause-does : goal.returns-in-Fast-clause-does
returns-in-Fast-clause-does c =
    let n = c.args.self.stations in
    let made : Made fresh_fast n c.new-lock.result = c.new-lock.ensures.value in
    grind (arith, made)

pub returns-in-OneBit-clause-throughout : goal.returns-in-OneBit-clause-throughout
returns-in-OneBit-clause-throughout c =
    let n = c.args.self.stations in
    let made : Made fresh_one_bit n c.new-lock-in-OneBit.result = c.new-lock-in-OneBit.ensures.value in
    grind (arith, made)

pub returns-in-OneBit-clause-does : goal.returns-in-OneBit-clause-does
returns-in-OneBit-clause-does c =
    let n = c.args.self.stations in
    let made : Made fresh_one_bit n c.new-lock-in-OneBit.result = c.new-lock-in-OneBit.ensures.value in
    grind (arith, made)
