-- What the works rely on after any list of calls, in any order of slots, whatever the lock.
-- It speaks of the events, of the ledger, and of what look and board show.
use Rattle.std.specs.Prelude.{◌≡◌, ℕ, ◌+◌, ◌≤◌, min, List, ◌∷◌, ◌++◌, length, pos, ◌+ℤ◌, Some, None, Ok, ◌≢◌, nat_le}
use Rattle.std.specs.List.{sum_by}
use Rattle.lock.specs.declared.stage.Stage.TheVariants.{Rest, Inside}
use Rattle.lock.specs.Stages.{AllRest}
use Rattle.lock.specs.Meaning.{Meaning, Exactly}
use Rattle.feed.specs.Whole.{setpoint, depth, signer, pile, sum, whole}
use Rattle.feed.specs.Course.{Bounded}
use Rattle.feed.specs.declared.job.Job.{Job}
use Rattle.rack.specs.Calls.{fresh_rack, look_answer, board_answer}
use Rattle.rack.specs.declared.calls.Rack.{Rack}
use Rattle.runs.specs.declared.events.Call.{Call}
use Rattle.runs.specs.declared.events.Event.{Event}
use Rattle.runs.specs.declared.events.Event.TheVariants.{Ordered}
use Rattle.runs.specs.Events.{events, ran}
use Rattle.runs.specs.Told.{accepted, finished, asking, serving, since, told, trying, inside, rests}
use Rattle.runs.specs.Ledger.{ledger}

-- a lock to set up a rack with: sound, and all its stations at rest
pub record Ready {L : Type 0} (m : Meaning L) (lock : L) : Type 0 where
  pub sound : m.sound lock
  pub at_rest : AllRest (m.stages lock)

-- a rack of n stations after some events, set up with a start
module _ {L : Type 0} (m : Meaning L) (n start : ℕ) (es : List Event) (r : Rack L) where
  -- LOOK shows of each station the stage that its answers told last; as its count, its accepted slots since its last accepted order, stopping at 65,535;
  -- and the ledger's last verdict
  pub record ShownByLook : Type 0 where
    pub of_station : (i : ℕ) → 1 ≤ i → i ≤ n → look_answer m r i ≡ Ok (record { stage = told es i; count = min (since es i) 65535; last = (ledger start es).last i })

  -- BOARD shows the station inside, as its answers told; and at most one is
  pub record OneInside : Type 0 where
    pub at_most_one : (i j : ℕ) → 1 ≤ i → i ≤ n → 1 ≤ j → j ≤ n → told es i ≡ Inside → told es j ≡ Inside → i ≡ j
    pub shown : (i : ℕ) → 1 ≤ i → i ≤ n → told es i ≡ Inside → (board_answer m r).inside ≡ Some i
    pub shown_only : (i : ℕ) → (board_answer m r).inside ≡ Some i → (1 ≤ i) × (i ≤ n) × (told es i ≡ Inside)

  -- with nobody inside, setpoint, pile and signer are those of the ledger, which did every finished job whole
  pub record BooksAgree : Type 0 where
    pub same_setpoint : (board_answer m r).setpoint ≡ setpoint (ledger start es).board
    pub same_depth : (board_answer m r).depth ≡ pos (depth (ledger start es).board)
    pub same_pile : pile r.board ≡ pile (ledger start es).board
    pub same_signer : (board_answer m r).signer ≡ signer (ledger start es).board
    -- and the setpoint is the start and the sum of the pile: nothing is lost to rounding
    pub nothing_lost : (board_answer m r).setpoint ≡ pos start +ℤ sum (pile r.board)

-- A LONE ORDER

-- the events up to some moment after an order for station i was answered 0
abbrev pub up_to : List Event → ℕ → Job → List Event → List Event
up_to before i job after = before ++ (Ordered i job (Ok tt) ∷ after)

-- the order was answered 0 while all others rested, and up to the moment no other order was answered 0
pub record Lone (n : ℕ) (es before : List Event) (i : ℕ) (job : Job) (after later : List Event) : Type 0 where
  pub split : es ≡ up_to before i job after ++ later
  pub others_rest : (j : ℕ) → 1 ≤ j → j ≤ n → (j ≢ i) → told before j ≡ Rest
  pub no_other : accepted after ≡ 0

-- the accesses of the job done whole on the ledger's board as the order finds it
abbrev pub accesses : ℕ → List Event → ℕ → Job → ℕ
accesses start before i job = (whole i (ledger start before).board job).accesses

module _ {L : Type 0} (m : Meaning L) (lock : L) (start : ℕ) (before : List Event) (i : ℕ) (job : Job) (after : List Event) where
  -- its station's count is the slots served to it since, which are at most the lock's two numbers and the job's accesses;
  -- and that many slots asked for suffice to bring it to rest
  pub record BoundedCost : Type 0 where
    pub count_is : since (up_to before i job after) i ≡ sum_by (serving i) after
    pub at_most : sum_by (serving i) after ≤ m.lone lock + m.leave lock + accesses start before i job
    pub suffices : m.lone lock + m.leave lock + accesses start before i job ≤ sum_by (asking i) after → told (up_to before i job after) i ≡ Rest

  -- with a lock whose lone cost is exact: the slot that makes up that cost and the job's accesses brings the station to rest, and none before;
  -- the slots served are those asked for up to that one
  pub record ExactCost (cost : ℕ) : Type 0 where
    pub rests_then : rests (told (up_to before i job after) i) ≡ nat_le (cost + accesses start before i job) (sum_by (asking i) after)
    pub served_till_then : sum_by (serving i) after ≡ min (sum_by (asking i) after) (cost + accesses start before i job)

-- THE PROMISE, of a rack after some events, set up with a lock and a start
pub record Promise {L : Type 0} (m : Meaning L) (lock : L) (start : ℕ) (es : List Event) (r : Rack L) : Type 0 where
  -- what look shows
  pub look : ShownByLook m (length (m.stages lock)) start es r
  -- who is inside
  pub inside_one : OneInside m (length (m.stages lock)) start es r
  -- with nobody inside, the books agree
  pub books : (board_answer m r).inside ≡ None → BooksAgree m (length (m.stages lock)) start es r
  -- no order is lost or made up: each accepted order is finished, or its station tries or is inside
  pub balance : accepted es ≡ finished es + trying (length (m.stages lock)) es + inside (length (m.stages lock)) es
  -- at any time, with a station inside too: setpoint 0 to 400,000, depth at most 64, signer at most the number of stations
  pub limits : Bounded (length (m.stages lock)) r.board
  -- a lone order costs no more than the lock's numbers and its job's accesses
  pub lone_bound : (before : List Event) (i : ℕ) (job : Job) (after later : List Event) → Lone (length (m.stages lock)) es before i job after later →
      BoundedCost m lock start before i job after
  -- and exactly as much as an exact lock says
  pub lone_exact : (enter leave : ℕ → ℕ) → Exactly m enter leave →
      (before : List Event) (i : ℕ) (job : Job) (after later : List Event) → Lone (length (m.stages lock)) es before i job after later →
      ExactCost m lock start before i job after (enter (length (m.stages lock)) + leave (length (m.stages lock)))

-- the promise at every moment of a list of calls
abbrev pub Throughout : {L : Type 0} → Meaning L → L → ℕ → List Call → Type 0
Throughout m lock start calls =
    (made left : List Call) → calls ≡ made ++ left → Promise m lock start (events m (fresh_rack lock start) made) (ran m (fresh_rack lock start) made)
