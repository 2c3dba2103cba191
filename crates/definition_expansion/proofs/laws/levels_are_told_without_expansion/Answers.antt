use Rattle.definition_expansion.proofs.LevelLaws.{expansion_derives, expansion_needs, uses_are_within, formula_is_within}
use Rattle.definition_expansion.proofs.laws.levels_are_told_without_expansion.Goals as goal

pub returns-clause-derives : goal.returns-clause-derives
returns-clause-derives c = expansion_derives

pub returns-clause-needs : goal.returns-clause-needs
returns-clause-needs c = expansion_needs

pub returns-clause-uses : goal.returns-clause-uses
returns-clause-uses c = uses_are_within

pub returns-clause-within : goal.returns-clause-within
returns-clause-within c = formula_is_within
