use Rattle.std.proofs.Common.{◌≡◌, map, take}
use Rattle.depth_first_search.specs.Graphs.{graph_of}
use Rattle.definition_expansion.specs.DefinitionView.{definition_of}
use Rattle.definition_expansion.specs.internal.UseNumbers.{use_graph}
use Rattle.definition_expansion.proofs.uses.uses_of_each.Given as goal

-- the rows of the definitions so far
abbrev pub invariant-loop-definition : goal.invariant-loop-definition
invariant-loop-definition l = graph_of l.rows.items ≡ use_graph l.heads (map definition_of (take l.definition-index l.definitions))
