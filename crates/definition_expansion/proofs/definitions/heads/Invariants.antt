use Rattle.std.proofs.Common.{take}
use Rattle.definition_expansion.specs.DefinitionView.{AreHeads}
use Rattle.definition_expansion.proofs.definitions.heads.Given as goal

-- the names so far are those of the definitions so far
abbrev pub invariant-loop-definition : goal.invariant-loop-definition
invariant-loop-definition l = AreHeads l.names (take l.definition-index l.definitions)
