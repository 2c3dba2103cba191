use Rattle.std.proofs.Common.{◌≡◌, ◌+◌, ◌≤◌, List, map, min, drop}
use Rattle.spec_syntax.specs.Syntax.{Definition}
use Rattle.spec_syntax.specs.SyntaxView.{section_syntax}
use Rattle.definition_expansion.specs.ExpansionSizes.{AreSizes}
use Rattle.definition_expansion.specs.declared.sizing.TheConstants.{NODES_STOP}
use Rattle.tsl_reader.specs.Expanding.{nodes_of_sections}
use Rattle.tsl_reader.proofs.expanding.nodes_of_sections.Given as goal

-- the nodes so far, and then those of the sections that are left
abbrev pub invariant-loop-section : goal.invariant-loop-section
invariant-loop-section l = record {
  few : l.nodes ≤ NODES_STOP;
  counted : (ds : List Definition) → AreSizes l.heads ds l.sizes →
      min NODES_STOP (l.nodes + nodes_of_sections ds (map section_syntax (drop l.section-index l.sections)))
      ≡ min NODES_STOP (nodes_of_sections ds (map section_syntax l.sections));
}
