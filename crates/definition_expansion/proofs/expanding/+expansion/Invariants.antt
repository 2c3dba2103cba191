use Rattle.std.proofs.Common.{◌≡◌, ◌≤◌, ◌-◌, map}
use Rattle.spec_syntax.specs.Syntax.{more_formulas}
use Rattle.definition_expansion.specs.Expansion.{expanded_members, expansion_within, passed_names, ungrouped_members}
use Rattle.definition_expansion.specs.Folds.{number_or, number_of_test, fold_by, fold_members_by, number_within}
use Rattle.definition_expansion.specs.internal.Costs.{costs}
use Rattle.spec_syntax.specs.SyntaxView.{formula_syntax, formulas_syntax, terms_syntax}
use Rattle.definition_expansion.specs.DefinitionView.{definitions_of}
use Rattle.definition_expansion.specs.internal.Standing.{standing}
use Rattle.base_library.proofs.Lists.{with_front}
use Rattle.definition_expansion.proofs.expanding.+expansion.Given as goal

-- the cost of what is to be made

abbrev pub decreases-expanded : goal.decreases-expanded
decreases-expanded l = fold_by costs (number_within costs (definitions_of l.definitions.now) l.within) (formula_syntax l.formula.now)

abbrev pub decreases-expanded_members : goal.decreases-expanded_members
decreases-expanded_members l = fold_members_by costs (number_within costs (definitions_of l.definitions.now) l.within)
    (formulas_syntax l.formulas.now)

abbrev pub decreases-expanded_bare : goal.decreases-expanded_bare
decreases-expanded_bare l = number_or (number_within costs (definitions_of l.definitions.now) l.within l.name.now) 5 - 1

abbrev pub decreases-expanded_test : goal.decreases-expanded_test
decreases-expanded_test l =
    number_or (number_of_test costs (number_within costs (definitions_of l.definitions.now) l.within) l.name.now
    (passed_names (terms_syntax l.arguments.now))) 5 - 1

abbrev pub decreases-replacing_test : goal.decreases-replacing_test
decreases-replacing_test l =
    number_or (number_of_test costs (number_within costs (definitions_of l.definitions.now) l.within) l.name.now
    (passed_names (terms_syntax l.arguments.now))) 5 - 2

abbrev pub decreases-replacing : goal.decreases-replacing
decreases-replacing l = number_or (number_within costs (definitions_of l.definitions.now) l.within l.name.now) 5 - 3

-- the formulas so far, and then those that are left
abbrev pub invariant-expanded_members-loop-rest : goal.invariant-expanded_members-loop-rest
invariant-expanded_members-loop-rest l = record {
  made : with_front more_formulas (map formula_syntax l.list.items)
      (ungrouped_members (expanded_members (expansion_within (definitions_of l.definitions) l.within) (standing l.passed)
      (formulas_syntax l.rest)))
      ≡ ungrouped_members (expanded_members (expansion_within (definitions_of l.definitions) l.within) (standing l.passed)
      (formulas_syntax l.fn.formulas));
  size : fold_members_by costs (number_within costs (definitions_of l.definitions) l.within) (formulas_syntax l.rest)
      ≤ fold_members_by costs (number_within costs (definitions_of l.definitions) l.within) (formulas_syntax l.fn.formulas);
}
