use Rattle.std.proofs.Common.{◌≡◌, length, map}
use Rattle.definition_expansion.specs.DefinitionView.{definition_of}
use Rattle.definition_expansion.specs.Folds.{depths, node_counts}
use Rattle.definition_expansion.specs.internal.SizeTables.{HasNumbers}
use Rattle.definition_expansion.proofs.sizing.sizes.Given as goal

-- the sizes of those gone through are there
abbrev pub invariant-loop-number : goal.invariant-loop-number
invariant-loop-number l = record {
  size : length l.sizes.items ≡ length l.definitions;
  levels : HasNumbers depths 201 (λ s. s.levels) (map definition_of l.definitions) l.order l.number-index l.sizes.items;
  nodes : HasNumbers node_counts 10001 (λ s. s.nodes) (map definition_of l.definitions) l.order l.number-index l.sizes.items;
}
