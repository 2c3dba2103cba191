use Rattle.std.proofs.Common.{◌≡◌, map}
use Rattle.base_library.specs.Numbers.{numbers_from}
use Rattle.table_syntax.specs.View.{word_entries_view}
use Rattle.word_interp.specs.Words.{given_for}
use Rattle.word_interp.proofs.entries.all_given.Given as goal

abbrev pub invariant-loop-id : goal.invariant-loop-id
invariant-loop-id l = l.given.items ≡ map (given_for l.names (word_entries_view l.entries)) (numbers_from 0 l.id)
