use Rattle.std.proofs.Common.{◌≡◌}
use Rattle.std.specs.Prelude.{filter}
use Rattle.base_library.specs.Numbers.{numbers_from}
use Rattle.entry_names.specs.Needed.{is_symbol_number}
use Rattle.entry_names.proofs.needing.needed.Given as goal

abbrev pub invariant-loop-id : goal.invariant-loop-id
invariant-loop-id l = l.all.items ≡ filter (is_symbol_number l.names) (numbers_from 0 l.id)
