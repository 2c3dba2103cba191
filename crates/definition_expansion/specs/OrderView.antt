-- Why definitions have no order.
use Rattle.std.specs.Prelude.{List}
use Rattle.spec_syntax.specs.Syntax.{Definition}
use Rattle.definition_expansion.specs.Uses.{IsFirstOnCycle}
use Rattle.definition_expansion.specs.declared.ordering.OrderFault.{OrderFault}
use Rattle.definition_expansion.specs.declared.ordering.OrderFault.TheVariants.{Cycle, NoMemory}

-- the fault is the first definition that reaches itself, unless memory ran out
abbrev pub HasOrderFault : List Definition → OrderFault → Type 0
HasOrderFault ds (Cycle number) = IsFirstOnCycle ds number
HasOrderFault ds NoMemory = Unit {0}
