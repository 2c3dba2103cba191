-- What is written and what is left make the whole.
use Rattle.std.proofs.Common.{◌≡◌, ◌++◌, map, drop}
use Rattle.std.specs.Prelude.{flat_map}
use Rattle.tsl_terms.specs.TermTree.{probe_tree}
use Rattle.term_text.specs.TermText.{probe_text}
use Rattle.automaton_text.specs.HoaText.{quoted_text}
use Rattle.automaton_text.proofs.writer.put_tests.Given as goal

abbrev pub invariant-loop-test : goal.invariant-loop-test
invariant-loop-test l =
    l.out.items ++ flat_map quoted_text (map (probe_text l.names) (map probe_tree (drop l.test-index l.tests)))
    ≡ l.fn.out.items ++ flat_map quoted_text (map (probe_text l.names) (map probe_tree l.tests))
