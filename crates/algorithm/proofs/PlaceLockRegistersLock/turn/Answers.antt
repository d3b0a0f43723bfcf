use Rattle.std.proofs.Common.{is_some, sym, ap, ◌∙◌}
use Rattle.algorithm.proofs.Stations.{moving_access}
use Rattle.algorithm.proofs.PlaceLockRegistersLock.turn.Goals as goal

pub returns-in-Some-clause-said : goal.returns-in-Some-clause-said
returns-in-Some-clause-said g c =
    sym (moving_access g.P.Algorithm.plan c.args.self.now c.args.station g.met.P.Algorithm.coherent
    ∙ ap (λ p. is_some (g.P.Algorithm.plan.access_at c.args.station p)) (sym c.place-place.ensures)
    ∙ ap is_some (sym c.access.ensures ∙ c.in-Some.is))

pub returns-in-None-clause-said : goal.returns-in-None-clause-said
returns-in-None-clause-said g c =
    sym (moving_access g.P.Algorithm.plan c.args.self.now c.args.station g.met.P.Algorithm.coherent
    ∙ ap (λ p. is_some (g.P.Algorithm.plan.access_at c.args.station p)) (sym c.place-place.ensures)
    ∙ ap is_some (sym c.access.ensures ∙ c.in-None.is))
