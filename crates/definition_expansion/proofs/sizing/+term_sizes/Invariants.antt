use Rattle.std.proofs.Common.{◌≡◌, ◌≤◌, ◌+◌, max, min}
use Rattle.spec_syntax.specs.declared.trees.ReadTerms.{size-ReadTerms}
use Rattle.spec_syntax.specs.SyntaxView.{terms_syntax}
use Rattle.definition_expansion.specs.Folds.{depths, node_counts, fold_terms}
use Rattle.definition_expansion.proofs.sizing.+term_sizes.Given as goal

-- the size so far, and that of the terms that are left
abbrev pub invariant-terms_size-loop-rest : goal.invariant-terms_size-loop-rest
invariant-terms_size-loop-rest l = record {
  levels : min 201 (max l.levels (fold_terms depths (terms_syntax l.rest))) ≡ min 201 (fold_terms depths (terms_syntax l.fn.terms));
  nodes : min 10001 (l.nodes + fold_terms node_counts (terms_syntax l.rest)) ≡ min 10001 (fold_terms node_counts (terms_syntax l.fn.terms));
  few_levels : l.levels ≤ 201;
  few_nodes : l.nodes ≤ 10001;
  size : size-ReadTerms l.rest ≤ size-ReadTerms l.initial.rest;
}
