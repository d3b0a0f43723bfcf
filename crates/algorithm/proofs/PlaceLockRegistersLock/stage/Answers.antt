use Rattle.std.proofs.Common.{◌≡◌, ◌∙◌, Option, Some, None, ap}
use Rattle.std.specs.Option.{option_map, MatchOption, IsSomeAnd}
use Rattle.algorithm.proofs.Stations.{found_stage}
use Rattle.algorithm.proofs.PlaceLockRegistersLock.stage.Goals as goal

mapped : {A B : Type 0} (f : A → B) (o : Option A) (r : Option B) → MatchOption o (r ≡ None) (λ x. IsSomeAnd r (λ y. y ≡ f x)) → r ≡ option_map f o
mapped f None r m = m
mapped f (Some x) None m = absurd m
mapped f (Some x) (Some y) m = ap Some m

pub returns : goal.returns
returns g c = mapped g.P.Algorithm.plan.stage_at c.find.result c.map.result c.map.ensures.cases ∙ ap (option_map g.P.Algorithm.plan.stage_at) c.find.ensures ∙ found_stage g.P.Algorithm.plan c.args.self.now c.args.station
