-- What is written and what is left make the whole, and the names hold what is left.
use Rattle.std.proofs.Common.{◌≡◌, ◌++◌, map, length}
use Rattle.std.specs.Prelude.{IsTrue}
use Rattle.std.specs.List.{list_all}
use Rattle.tsl_terms.specs.TermTree.{term_tree}
use Rattle.term_text.specs.TermText.{is_held, term_is_held}
use Rattle.flow_program.specs.ProgramText.{updates_text}
use Rattle.flow_program.proofs.writing.put_updates.Given as goal

abbrev pub invariant-loop-signals : goal.invariant-loop-signals
invariant-loop-signals l = record {
  written : l.out.items ++ updates_text l.names l.signals (map term_tree l.terms)
      ≡ l.fn.out.items ++ updates_text l.names l.fn.signals (map term_tree l.fn.terms);
  signals : IsTrue (list_all (is_held l.names) l.signals);
  terms : IsTrue (list_all (term_is_held l.names) (map term_tree l.terms));
}

abbrev pub decreases-loop-signals : goal.decreases-loop-signals
decreases-loop-signals l = length l.signals
