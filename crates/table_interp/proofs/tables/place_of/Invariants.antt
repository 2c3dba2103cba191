use Rattle.table_interp.proofs.Lookups.{PlacedUpTo}
use Rattle.table_interp.proofs.tables.place_of.Given as goal

abbrev pub invariant-loop-argument : goal.invariant-loop-argument
invariant-loop-argument l = PlacedUpTo l.domain l.arguments l.argument-index l.place
