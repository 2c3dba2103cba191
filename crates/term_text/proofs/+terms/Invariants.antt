-- What is written and what is left are the arguments that were handed in.
use Rattle.std.proofs.Common.{◌≡◌, ◌++◌, IsTrue, ◌≤◌}
use Rattle.tsl_terms.specs.declared.term.TermList.{size-TermList}
use Rattle.tsl_text.specs.Division.{BeginsWith}
use Rattle.tsl_terms.specs.TermTree.{term_trees}
use Rattle.term_text.specs.TermText.{arguments_text, terms_are_held}
use Rattle.term_text.proofs.+terms.Given as goal

abbrev pub invariant-put_arguments-loop-rest : goal.invariant-put_arguments-loop-rest
invariant-put_arguments-loop-rest l = record {
  held : IsTrue (terms_are_held l.names (term_trees l.rest));
  written : l.out.items ++ arguments_text l.names (term_trees l.rest) ≡ l.fn.out.items
      ++ arguments_text l.names (term_trees l.fn.arguments);
  front : BeginsWith l.out.items l.fn.out.items;
  size : size-TermList l.rest ≤ size-TermList l.fn.arguments;
}
