use Rattle.std.proofs.Common.{◌≡◌, map, take}
use Rattle.tsl_terms.specs.TermTree.{term_tree}
use Rattle.table_runner.proofs.recording.copied_terms.Given as goal

abbrev pub invariant-loop-term : goal.invariant-loop-term
invariant-loop-term l = map term_tree l.copies.items ≡ map term_tree (take l.term-index l.terms)
