-- A lone order in four phases: its station tries, works, leaves, and rests.
use Rattle.std.proofs.Common.{◌≡◌, ℕ, ◌+◌, ◌<◌, ◌≤◌, length, Some}
use Rattle.lock.specs.declared.stage.Stage.TheVariants.{Rest, Trying, Inside, Leaving}
use Rattle.lock.specs.Stages.{asked, OthersRest}
use Rattle.lock.specs.Meaning.{Meaning}
use Rattle.feed.specs.Task.{begun}
use Rattle.feed.specs.Whole.{whole}
use Rattle.feed.specs.Course.{going, walk}
use Rattle.feed.specs.declared.board.Board.{Board}
use Rattle.feed.specs.declared.job.Job.{Job}
use Rattle.rack.specs.Calls.{kept}
use Rattle.rack.specs.declared.calls.Rack.{Rack}
use Rattle.runs.proofs.Fixed.{Fixed}
use Rattle.runs.proofs.Ways.{OnWay, Arrived}

-- a job ordered for station i, which found the lock `quiet` and the board `book`, of a rack that was set up with another lock.
-- Since then `served` of the station's slots were served, and `wanted` were asked for
module _ {L : Type 0} (m : Meaning L) (lock quiet : L) (i : ℕ) (book : Board) (job : Job) where
  -- the way in, after its begin; and the way out, after its end with the lock `full`
  abbrev pub TryingFor : ℕ → L → Type 0
  TryingFor k now = OnWay m i Trying Inside (m.lone lock) (m.begun quiet i) k now

  abbrev pub GotIn : ℕ → Type 0
  GotIn k = Arrived m i Trying Inside (m.lone lock) (m.begun quiet i) k

  abbrev pub LeavingFor : L → ℕ → L → Type 0
  LeavingFor full k now = OnWay m i Leaving Rest (m.leave lock) (m.ended full i) k now

  abbrev pub GotOut : L → ℕ → Type 0
  GotOut full k = Arrived m i Leaving Rest (m.leave lock) (m.ended full i) k

  pub record Tries (r : Rack L) (served wanted : ℕ) : Type 0 where
    pub here : asked (m.stages r.lock) i ≡ Some Trying
    pub task : (kept r i).task ≡ begun job
    pub board : r.board ≡ book
    pub way : TryingFor served r.lock
    pub all_served : wanted ≡ served

  pub record Works (r : Rack L) (served wanted : ℕ) : Type 0 where
    pub here : asked (m.stages r.lock) i ≡ Some Inside
    pub turns_in : ℕ
    pub made : ℕ
    pub spent : served ≡ turns_in + made
    pub got_in : GotIn turns_in
    pub not_all : made < (whole i book job).accesses
    pub walked : walk i made (going (begun job) book) ≡ going (kept r i).task r.board
    pub all_served : wanted ≡ served

  -- a lock from which the station went, being inside
  pub record Full (full : L) : Type 0 where
    pub fixed : Fixed m lock full
    pub inside : asked (m.stages full) i ≡ Some Inside

  pub record Leaves (r : Rack L) (served wanted : ℕ) : Type 0 where
    pub here : asked (m.stages r.lock) i ≡ Some Leaving
    pub turns_in : ℕ
    pub turns_out : ℕ
    pub spent : served ≡ turns_in + (whole i book job).accesses + turns_out
    pub got_in : GotIn turns_in
    pub full : L
    pub was_full : Full full
    pub way : LeavingFor full turns_out r.lock
    pub all_served : wanted ≡ served

  pub record Rests (r : Rack L) (served wanted : ℕ) : Type 0 where
    pub here : asked (m.stages r.lock) i ≡ Some Rest
    pub turns_in : ℕ
    pub turns_out : ℕ
    pub spent : served ≡ turns_in + (whole i book job).accesses + turns_out
    pub got_in : GotIn turns_in
    pub full : L
    pub was_full : Full full
    pub got_out : GotOut full turns_out
    pub not_more : served ≤ wanted

  pub data Phase (r : Rack L) (served wanted : ℕ) : Type 0 where
    tries : Tries r served wanted → Phase r served wanted
    works : Works r served wanted → Phase r served wanted
    leaves : Leaves r served wanted → Phase r served wanted
    rests : Rests r served wanted → Phase r served wanted

  -- all others rest
  pub record Lonely (r : Rack L) (served wanted : ℕ) : Type 0 where
    pub fixed : Fixed m lock r.lock
    pub size : length r.stations ≡ 16
    pub others : OthersRest (m.stages r.lock) i
    pub phase : Phase r served wanted
