use Rattle.std.proofs.Common.{◌≡◌, ◌++◌, map, drop}
use Rattle.std.specs.Prelude.{flat_map}
use Rattle.spec_syntax.specs.SyntaxView.{formula_syntax}
use Rattle.name_resolution.specs.Occurrences.{formula_occurrences}
use Rattle.name_resolution.specs.OccurrenceView.{occurrence_of}
use Rattle.name_resolution.specs.internal.Scopes.{scope_of}
use Rattle.name_resolution.proofs.walk.add_section.Given as goal

-- the names so far, and then those of the formulas that are left
abbrev pub invariant-loop-formula : goal.invariant-loop-formula
invariant-loop-formula l =
    map occurrence_of l.list.items
    ++ flat_map (formula_occurrences (scope_of l.scope) 0) (map formula_syntax (drop l.formula-index l.section.formulas.items))
    ≡ map occurrence_of l.fn.list.items
    ++ flat_map (formula_occurrences (scope_of l.scope) 0) (map formula_syntax l.section.formulas.items)
