-- What the phases of a lone order say of the slots that were served and asked for.
use Rattle.std.proofs.Common.{◌≡◌, ℕ, ◌+◌, ◌<◌, ◌≤◌, min, leb, length, Some, sym, ap, ◌∙◌, subst, arith}
use Rattle.std.proofs.lemmas.Bool.{lt-leb, le-leb}
use Rattle.lock.specs.declared.stage.Stage.{Stage}
use Rattle.lock.specs.declared.stage.Stage.TheVariants.{Rest, Trying, Inside, Leaving}
use Rattle.lock.specs.Stages as stages
use Rattle.lock.specs.Stages.{asked, AllRest}
use Rattle.lock.specs.Meaning.{Meaning, Lawful, Exactly}
use Rattle.feed.specs.Whole.{whole}
use Rattle.feed.specs.declared.board.Board.{Board}
use Rattle.feed.specs.declared.job.Job.{Job}
use Rattle.rack.specs.declared.calls.Rack.{Rack}
use Rattle.runs.specs.Told as told
use Rattle.runs.proofs.Fixed.{Fixed}
use Rattle.runs.proofs.Ways.{Takes}
use Rattle.runs.proofs.Phases.{Full, Phase, tries, works, leaves, rests, Lonely}

module _ {L : Type 0} (m : Meaning L) (laws : Lawful m) (lock quiet : L) (i : ℕ) (book : Board) (job : Job) (r : Rack L) (served wanted : ℕ) where
  abbrev acc : ℕ
  acc = (whole i book job).accesses

  phase_cost : Phase m lock quiet i book job r served wanted → served ≤ m.lone lock + m.leave lock + acc
  phase_cost (tries P) = let a = P.way.few in omega arith
  phase_cost (works P) = let a = P.got_in.few in let b = P.spent in let c = P.not_all in omega arith
  phase_cost (leaves P) = let a = P.got_in.few in let b = P.spent in let c = P.way.few in omega arith
  phase_cost (rests P) = let a = P.got_in.few in let b = P.spent in let c = P.got_out.few in omega arith

  pub cost_bounded : Lonely m lock quiet i book job r served wanted → served ≤ m.lone lock + m.leave lock + acc
  cost_bounded lonely = phase_cost lonely.phase

  -- a station that tries or leaves has a turn to come, and one that works an access
  phase_enough : Lonely m lock quiet i book job r served wanted → Phase m lock quiet i book job r served wanted →
      m.lone lock + m.leave lock + acc ≤ wanted → asked (m.stages r.lock) i ≡ Some Rest
  phase_enough lonely (tries P) h =
      let falls = laws.lone_falls r.lock i lonely.fixed.sound P.here lonely.others in
      let a = P.way.few in let b = P.all_served in absurd (omega arith)
  phase_enough lonely (works P) h = let a = P.got_in.few in let b = P.spent in let c = P.not_all in let d = P.all_served in absurd (omega arith)
  phase_enough lonely (leaves P) h =
      let falls = laws.leave_falls r.lock i lonely.fixed.sound P.here in
      let a = P.got_in.few in let b = P.spent in let c = P.way.few in let d = P.all_served in absurd (omega arith)
  phase_enough lonely (rests P) h = P.here

  pub cost_suffices : Lonely m lock quiet i book job r served wanted → m.lone lock + m.leave lock + acc ≤ wanted → asked (m.stages r.lock) i ≡ Some Rest
  cost_suffices lonely = phase_enough lonely lonely.phase

  -- a lock with an exact lone cost
  module _ (F : Fixed m lock quiet) (rest : AllRest (m.stages quiet)) (st : stages.Station (m.stages quiet) i) (enter leave : ℕ → ℕ) (E : Exactly m enter leave) where
    abbrev n : ℕ
    n = length (m.stages lock)

    takes_in : Takes m i Trying Inside (m.lone lock) (m.begun quiet i) (enter n)
    takes_in =
        subst (λ z. Takes m i Trying Inside (m.lone lock) (m.begun quiet i) (enter z)) F.number
        record { before = λ k less. E.waits quiet i k F.sound rest st less; then = E.enters quiet i F.sound rest st }

    takes_out : (full : L) → Full m lock quiet i book job full → Takes m i Leaving Rest (m.leave lock) (m.ended full i) (leave n)
    takes_out full W =
        subst (λ z. Takes m i Leaving Rest (m.leave lock) (m.ended full i) (leave z)) W.fixed.number
        record { before = λ k less. E.stays full i k W.fixed.sound W.inside less; then = E.rests full i W.fixed.sound W.inside }

    -- at rest from the slot on that makes up the cost, and all slots up to it served
    abbrev Exact : Stage → Type 0
    Exact x = (told.rests x ≡ leb (enter n + leave n + acc) wanted) × (served ≡ min wanted (enter n + leave n + acc))

    not_yet : (x : Stage) → told.rests x ≡ told.rests Trying → wanted ≡ served → wanted < enter n + leave n + acc → Exact x
    not_yet x e all less = (e ∙ sym (lt-leb (enter n + leave n + acc) wanted less), omega arith)

    phase_exact : Phase m lock quiet i book job r served wanted → (x : Stage) → asked (m.stages r.lock) i ≡ Some x → Exact x
    phase_exact (tries P) x e =
        let here = P.here in
        let a = P.way.early (enter n) takes_in in
        let b = P.all_served in
        let same : x ≡ Trying = cc in
        not_yet x (ap told.rests same) b (omega arith)
    phase_exact (works P) x e =
        let here = P.here in
        let a = P.got_in.exact (enter n) takes_in in
        let b = P.all_served in let c = P.spent in let d = P.not_all in
        let same : x ≡ Inside = cc in
        not_yet x (ap told.rests same) b (omega arith)
    phase_exact (leaves P) x e =
        let here = P.here in
        let a = P.got_in.exact (enter n) takes_in in
        let b = P.way.early (leave n) (takes_out P.full P.was_full) in
        let c = P.all_served in let d = P.spent in
        let same : x ≡ Leaving = cc in
        not_yet x (ap told.rests same) c (omega arith)
    phase_exact (rests P) x e =
        let here = P.here in
        let a = P.got_in.exact (enter n) takes_in in
        let b = P.got_out.exact (leave n) (takes_out P.full P.was_full) in
        let c = P.not_more in let d = P.spent in
        let same : x ≡ Rest = cc in
        (ap told.rests same ∙ sym (le-leb (enter n + leave n + acc) wanted (omega arith)), omega arith)

    pub cost_exact : Lonely m lock quiet i book job r served wanted → (x : Stage) → asked (m.stages r.lock) i ≡ Some x → Exact x
    cost_exact lonely = phase_exact lonely.phase
