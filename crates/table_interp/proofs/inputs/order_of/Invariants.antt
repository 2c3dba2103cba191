use Rattle.std.proofs.Common.{take}
use Rattle.table_interp.specs.internal.Ordered.{AreOrdered}
use Rattle.table_interp.proofs.inputs.order_of.Given as goal

abbrev pub invariant-loop-id : goal.invariant-loop-id
invariant-loop-id l = AreOrdered l.places (take l.id-index l.inputs) l.order.items
