use Rattle.std.proofs.Common.{◌≡◌, ◌<◌, ◌≤◌, ◌^◌, ◌++◌, length, map}
use Rattle.spec_syntax.specs.declared.trees.ReadTerms.{size-ReadTerms}
use Rattle.spec_syntax.specs.SyntaxView.{terms_syntax}
use Rattle.name_resolution.specs.Occurrences.{terms_occurrences}
use Rattle.name_resolution.specs.OccurrenceView.{occurrence_of}
use Rattle.name_resolution.specs.internal.Scopes.{scope_of}
use Rattle.name_resolution.proofs.walk.+term_names.Given as goal

-- the names so far, and then those of the terms that are left
abbrev pub invariant-add_terms-loop-rest : goal.invariant-add_terms-loop-rest
invariant-add_terms-loop-rest l = record {
  names_are : map occurrence_of l.list.items ++ terms_occurrences (scope_of l.scope) l.level (terms_syntax l.rest)
      ≡ map occurrence_of l.fn.list.items ++ terms_occurrences (scope_of l.scope) l.level (terms_syntax l.fn.terms);
  few : length (terms_occurrences (scope_of l.scope) l.level (terms_syntax l.rest)) < 2 ^ 32;
  size : size-ReadTerms l.rest ≤ size-ReadTerms l.initial.rest;
}
