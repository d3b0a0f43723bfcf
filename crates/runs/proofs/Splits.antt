-- A list of events taken apart, with the calls that they came from; and the order that it was taken apart at.
use Rattle.std.proofs.Common.{◌≡◌, ℕ, List, [], ◌∷◌, ◌++◌, Some, None, Ok, sym, refl, ap, ◌∙◌, subst}
use Rattle.lock.specs.declared.stage.Stage.TheVariants.{Rest}
use Rattle.lock.specs.Meaning.{Meaning}
use Rattle.feed.specs.declared.job.Job.{Job}
use Rattle.rack.specs.Calls.{stage_of, fault, order_left, order_answer, ordered_rack, order_rack}
use Rattle.rack.specs.declared.calls.Rack.{Rack}
use Rattle.runs.specs.declared.events.Call.{Call}
use Rattle.runs.specs.declared.events.Call.TheVariants.{Order, Slot, Look, Show}
use Rattle.runs.specs.declared.events.Event.{Event}
use Rattle.runs.specs.declared.events.Event.TheVariants.{Ordered}
use Rattle.runs.specs.Events.{event, after, ran, events}
use Rattle.runs.proofs.Tests.{never}
use Rattle.runs.proofs.Accepted.{accepted_at_rest}

-- the calls whose events these are, in two parts
pub record Parts {L : Type 0} (m : Meaning L) (r : Rack L) (cs : List Call) (xs ys : List Event) : Type 0 where
  pub first : List Call
  pub second : List Call
  pub first-events : events m r first ≡ xs
  pub second_events : events m (ran m r first) second ≡ ys
  pub both : ran m r cs ≡ ran m (ran m r first) second

pub parts : {L : Type 0} (m : Meaning L) (xs ys : List Event) (cs : List Call) (r : Rack L) → events m r cs ≡ xs ++ ys → Parts m r cs xs ys
parts m [] ys cs r e = record { first = []; second = cs; first-events = refl; second_events = e; both = refl }
parts m (x ∷ xs) ys [] r e = never (cc)
parts m (x ∷ xs) ys (c ∷ cs) r e =
    let head : event m r c ≡ x = cc in
    let tail : events m (after m r c) cs ≡ xs ++ ys = cc in
    let P = parts m xs ys cs (after m r c) tail in
    record {
      first = c ∷ P.first;
      second = P.second;
      first-events = ap (λ z. z ∷ events m (after m r c) P.first) head ∙ ap (λ z. x ∷ z) P.first-events;
      second_events = P.second_events;
      both = P.both;
    }

-- an order answered 0: its station rested, its job had no fault, and the rack went on from it
pub record Taken {L : Type 0} (m : Meaning L) (r : Rack L) (i : ℕ) (job : Job) (cs : List Call) (es : List Event) : Type 0 where
  pub rested : stage_of m r i ≡ Some Rest
  pub no_fault : fault job ≡ None
  pub rest : List Call
  pub rest_events : events m (ordered_rack m r i job) rest ≡ es
  pub ends : ran m r cs ≡ ran m (ordered_rack m r i job) rest

module _ {L : Type 0} (m : Meaning L) (r : Rack L) (i : ℕ) (job : Job) where
  taken_order : (cs : List Call) (es : List Event) → order_answer m r i job ≡ Ok tt → events m (order_rack m r i job) cs ≡ es → Taken m r i job (Order i job ∷ cs) es
  taken_order cs es a e =
      let (rested, no_fault) = accepted_at_rest (stage_of m r i) (fault job) a in
      let c : order_rack m r i job ≡ ordered_rack m r i job = ap (order_left r (ordered_rack m r i job)) a in
      record { rested = rested; no_fault = no_fault; rest = cs; rest_events = ap (λ z. events m z cs) (sym c) ∙ e; ends = ap (λ z. ran m z cs) c }

  pub taken : (cs : List Call) (es : List Event) → events m r cs ≡ Ordered i job (Ok tt) ∷ es → Taken m r i job cs es
  taken [] es e = never (cc)
  taken (Slot j ∷ cs) es e = let h : event m r (Slot j) ≡ Ordered i job (Ok tt) = cc in never (cc)
  taken (Look j ∷ cs) es e = let h : event m r (Look j) ≡ Ordered i job (Ok tt) = cc in never (cc)
  taken (Show ∷ cs) es e = let h : event m r Show ≡ Ordered i job (Ok tt) = cc in never (cc)
  taken (Order j other ∷ cs) es e =
      let head : Ordered j other (order_answer m r j other) ≡ Ordered i job (Ok tt) = cc in
      let tail : events m (order_rack m r j other) cs ≡ es = cc in
      let same : j ≡ i = cc in
      let same_job : other ≡ job = cc in
      let said : order_answer m r j other ≡ Ok tt = cc in
      let P : ℕ → Job → Type 0 = λ x y. order_answer m r x y ≡ Ok tt → events m (order_rack m r x y) cs ≡ es → Taken m r i job (Order x y ∷ cs) es in
      subst (λ x. P x other) (sym same) (subst (λ y. P i y) (sym same_job) (taken_order cs es)) said tail
