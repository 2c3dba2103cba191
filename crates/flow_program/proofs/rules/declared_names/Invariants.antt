-- The names are those of the names so far.
use Rattle.std.proofs.Common.{◌≡◌, map, take}
use Rattle.program_listing.specs.Listing.{declared_entry}
use Rattle.flow_program.proofs.rules.declared_names.Given as goal

abbrev pub invariant-loop-name : goal.invariant-loop-name
invariant-loop-name l = l.names ≡ map (declared_entry l.text) (take l.name-index l.declared)
