use Rattle.std.proofs.Common.{◌≡◌, ◌+◌, ◌≤◌, List, map, min, drop}
use Rattle.spec_syntax.specs.Syntax.{Definition}
use Rattle.spec_syntax.specs.SyntaxView.{formula_syntax}
use Rattle.definition_expansion.specs.ExpansionSizes.{AreSizes}
use Rattle.definition_expansion.specs.declared.sizing.TheConstants.{NODES_STOP}
use Rattle.tsl_reader.specs.Expanding.{nodes_of_formulas}
use Rattle.tsl_reader.proofs.expanding.nodes_with.Given as goal

-- the nodes so far, and then those of the formulas that are left
abbrev pub invariant-loop-formula : goal.invariant-loop-formula
invariant-loop-formula l = record {
  few : l.nodes ≤ NODES_STOP;
  counted : (ds : List Definition) → AreSizes l.heads ds l.sizes →
      min NODES_STOP (l.nodes + nodes_of_formulas ds (map formula_syntax (drop l.formula-index l.formulas)))
      ≡ min NODES_STOP (l.before + nodes_of_formulas ds (map formula_syntax l.formulas));
}
