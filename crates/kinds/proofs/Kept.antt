-- A run that gives a rack had a lock that was made, and so a fresh one; where its lone cost is exact, the promise gives it as a number.
use Rattle.std.proofs.Common.{◌≡◌, ℕ, ◌+◌, Bool, true, false, cond, List, Ok, Err, vec_items, IfOk, Result, sym, ap, ◌∙◌, subst, arith}
use Rattle.lock.specs.declared.count.WrongStationCount.{WrongStationCount}
use Rattle.lock.specs.Fresh.{Made}
use Rattle.lock.specs.Meaning.{Meaning, Exactly}
use Rattle.runs.specs.Promise.{Lone, ExactCost}
use Rattle.runs.specs.declared.events.Call.{Call}
use Rattle.runs.specs.declared.run.Fault.{Fault}
use Rattle.runs.specs.declared.run.Ran.{Ran}
use Rattle.kinds.specs.Runs.{MadeRun}
use Rattle.kinds.specs.Promise.{Assured, MadePromise}

module _ {L : Type 0} (m : Meaning L) (lock : L) (n start : ℕ) (calls : List Call) (enter leave : ℕ → ℕ) (exact : Exactly m enter leave) (cost : ℕ) (sum : enter n + leave n ≡ cost) where
  -- the lock, if the number of its stations was not wrong
  abbrev made : WrongStationCount → Bool → Result L WrongStationCount
  made wrong bad = cond bad (Err wrong) (Ok lock)

  kept_if : (wrong : WrongStationCount) (bad : Bool) (r : Result (Ran L) Fault) → Made m n (made wrong bad) → MadeRun m (made wrong bad) start calls r →
      IfOk r (λ d. MadePromise m (made wrong bad) start (vec_items d.events) d.rack) → IfOk r (λ d. Assured m lock n start cost (vec_items d.events) d.rack)
  kept_if wrong bad (Err f) fresh run promise = promise
  kept_if wrong true (Ok d) fresh run promise = let z : ◌≡◌ {A = ℕ} 0 1 = cc in absurd (omega arith)
  kept_if wrong false (Ok d) fresh run promise =
      let size = fresh.2.size in
      let keeps = promise record { sound = fresh.2.sound; at_rest = fresh.2.resting } in
      record {
        stations = size;
        promise = keeps;
        lone_cost = λ before i job after later lone.
            subst (λ c. ExactCost m lock start before i job after c) (ap (λ k. enter k + leave k) size ∙ sum)
            (keeps.lone_exact enter leave exact before i job after later (subst (λ k. Lone k (vec_items d.events) before i job after later) (sym size) lone));
      }

  pub kept : (wrong : WrongStationCount) (bad : Bool) (l : Result L WrongStationCount) (r : Result (Ran L) Fault) → l ≡ made wrong bad → Made m n l →
      MadeRun m l start calls r → IfOk r (λ d. MadePromise m l start (vec_items d.events) d.rack) → IfOk r (λ d. Assured m lock n start cost (vec_items d.events) d.rack)
  kept wrong bad l r is =
      subst (λ z. Made m n z → MadeRun m z start calls r → IfOk r (λ d. MadePromise m z start (vec_items d.events) d.rack) → IfOk r (λ d. Assured m lock n start cost (vec_items d.events) d.rack))
      (sym is) (kept_if wrong bad r)
