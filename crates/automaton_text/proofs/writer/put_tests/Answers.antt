use Rattle.std.proofs.Common.{IsTrue, sym, subst}
use Rattle.base_library.proofs.Passes.{map_passes_within}
use Rattle.tsl_terms.specs.declared.term.Probe.{Probe}
use Rattle.tsl_terms.specs.TermTree.{probe_tree}
use Rattle.term_text.specs.TermText.{probe_is_held}
use Rattle.automaton_text.proofs.writer.put_tests.Goals as goal

pub put_test-requires : goal.put_test-requires
put_test-requires c =
    subst (λ (p : Probe). IsTrue (probe_is_held c.args.names.now (probe_tree p))) (sym c.test-item.is)
    (map_passes_within probe_tree (probe_is_held c.args.names.now) c.args.tests.now c.loop-test.test-index _ c.requires c.loop-test-test.true)
