-- One access to registers, by what reading and writing one mean: `value_of` and `with_value`.
use Rattle.bus.specs.declared.Access.{Access}
use Rattle.bus.specs.declared.Access.TheVariants.{Read, Write}

-- the registers after it
abbrev pub performed : {M R V : Type 0} → (M → R → V → M) → M → Access R V → M
performed with_value m (Read r) = m
performed with_value m (Write r v) = with_value m r v

-- the value that goes over the bus: what is read, or what is written
abbrev pub carried : {M R V : Type 0} → (M → R → V) → M → Access R V → V
carried value_of m (Read r) = value_of m r
carried value_of m (Write r v) = v
