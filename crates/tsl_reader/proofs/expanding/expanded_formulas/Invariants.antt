use Rattle.std.proofs.Common.{◌≡◌, map, take}
use Rattle.spec_syntax.specs.SyntaxView.{formula_syntax}
use Rattle.definition_expansion.specs.DefinitionView.{definition_of}
use Rattle.tsl_reader.specs.Expanding.{bare_expansion}
use Rattle.tsl_reader.proofs.expanding.expanded_formulas.Given as goal

-- the expansions so far
abbrev pub invariant-loop-formula : goal.invariant-loop-formula
invariant-loop-formula l =
    map formula_syntax l.list.items
    ≡ map (bare_expansion (map definition_of l.definitions)) (map formula_syntax (take l.formula-index l.formulas))
