-- What is written and what is left make the whole.
use Rattle.std.proofs.Common.{◌≡◌, ◌++◌, map, drop}
use Rattle.tsl_terms.specs.TermTree.{probe_tree}
use Rattle.environment_text.specs.EnvironmentText.{tests_text}
use Rattle.environment_text.proofs.environment.put_tests.Given as goal

abbrev pub invariant-loop-number : goal.invariant-loop-number
invariant-loop-number l = l.out.items ++ tests_text l.names l.number (map probe_tree (drop l.number l.probes))
    ≡ l.fn.out.items ++ tests_text l.names 0 (map probe_tree l.probes)
