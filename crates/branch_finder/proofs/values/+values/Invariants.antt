-- What has the values of some terms mixed in, and is to have those of the terms that are left.
use Rattle.std.proofs.Common.{◌≡◌, ◌≤◌}
use Rattle.tsl_terms.specs.declared.term.TermList.{size-TermList}
use Rattle.tsl_terms.specs.TermTree.{term_trees}
use Rattle.branch_finder.specs.internal.Values.{values_by, value_in}
use Rattle.branch_finder.proofs.values.+values.Given as goal

abbrev pub invariant-values_of-loop-rest : goal.invariant-values_of-loop-rest
invariant-values_of-loop-rest l = record {
  mixed : values_by (value_in l.known.cells.now l.known.values.now l.known.step) l.value (term_trees l.rest)
      ≡ values_by (value_in l.known.cells.now l.known.values.now l.known.step) l.seed (term_trees l.fn.terms);
  left : size-TermList l.rest ≤ size-TermList l.initial.rest;
}
