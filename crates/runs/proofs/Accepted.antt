-- An order is accepted where its station rests and its job has no fault.
use Rattle.std.proofs.Common.{◌≡◌, Some, None, Ok, Option, arith}
use Rattle.lock.specs.declared.stage.Stage.{Stage}
use Rattle.lock.specs.declared.stage.Stage.TheVariants.{Rest}
use Rattle.rack.specs.Calls.{order_said}
use Rattle.answers.specs.declared.Refusal.{Refusal}

pub accepted_at_rest : (x : Option Stage) (f : Option Refusal) → order_said x f ≡ Ok tt → (x ≡ Some Rest) × (f ≡ None)
accepted_at_rest x f e = grind arith
