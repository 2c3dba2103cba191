use Rattle.std.proofs.Common.{◌≡◌, ◌+◌, ◌<◌, ◌≤◌, ◌^◌, ◌++◌, length, map}
use Rattle.spec_syntax.specs.declared.trees.ReadFormulas.{size-ReadFormulas}
use Rattle.spec_syntax.specs.Levels.{members_depth}
use Rattle.spec_syntax.specs.SyntaxView.{formulas_syntax}
use Rattle.name_resolution.specs.Occurrences.{members_occurrences}
use Rattle.name_resolution.specs.OccurrenceView.{occurrence_of}
use Rattle.name_resolution.specs.internal.Scopes.{scope_of}
use Rattle.name_resolution.proofs.walk.+formula_names.Given as goal

-- the names so far, and then those of the formulas that are left
abbrev pub invariant-add_members-loop-rest : goal.invariant-add_members-loop-rest
invariant-add_members-loop-rest l = record {
  names_are : map occurrence_of l.list.items ++ members_occurrences (scope_of l.scope) l.level (formulas_syntax l.rest)
      ≡ map occurrence_of l.fn.list.items ++ members_occurrences (scope_of l.scope) l.level (formulas_syntax l.fn.formulas);
  few : length (members_occurrences (scope_of l.scope) l.level (formulas_syntax l.rest)) < 2 ^ 32;
  levels : l.level + members_depth (formulas_syntax l.rest) < 2 ^ 32;
  size : size-ReadFormulas l.rest ≤ size-ReadFormulas l.initial.rest;
}
