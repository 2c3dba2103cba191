use Rattle.std.proofs.Common.{◌≡◌, ◌≤◌, ◌+◌, max, min}
use Rattle.spec_syntax.specs.declared.trees.ReadFormulas.{size-ReadFormulas}
use Rattle.spec_syntax.specs.SyntaxView.{formulas_syntax}
use Rattle.definition_expansion.specs.Folds.{depths, node_counts, fold_members_by}
use Rattle.definition_expansion.specs.ExpansionSizes.{levels_at, nodes_at}
use Rattle.definition_expansion.proofs.sizing.+formula_sizes.Given as goal

-- the size so far, and that of the formulas that are left
abbrev pub invariant-members_size-loop-rest : goal.invariant-members_size-loop-rest
invariant-members_size-loop-rest l = record {
  levels : min 201 (max l.levels (fold_members_by depths (levels_at l.heads l.sizes) (formulas_syntax l.rest)))
      ≡ min 201 (fold_members_by depths (levels_at l.heads l.sizes) (formulas_syntax l.fn.formulas));
  nodes : min 10001 (l.nodes + fold_members_by node_counts (nodes_at l.heads l.sizes) (formulas_syntax l.rest))
      ≡ min 10001 (fold_members_by node_counts (nodes_at l.heads l.sizes) (formulas_syntax l.fn.formulas));
  few_levels : l.levels ≤ 201;
  few_nodes : l.nodes ≤ 10001;
  size : size-ReadFormulas l.rest ≤ size-ReadFormulas l.initial.rest;
}
