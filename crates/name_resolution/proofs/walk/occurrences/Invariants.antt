use Rattle.std.proofs.Common.{◌≡◌, ◌+◌, ◌<◌, ◌^◌, ◌++◌, length, map, drop}
use Rattle.spec_syntax.specs.SyntaxView.{declaration_syntax}
use Rattle.name_resolution.specs.Occurrences.{occurrences_behind, occurrences}
use Rattle.name_resolution.specs.OccurrenceView.{occurrence_of}
use Rattle.name_resolution.proofs.walk.occurrences.Given as goal

-- the names so far, and then those of the declarations that are left; and few defined names
abbrev pub invariant-loop-declaration : goal.invariant-loop-declaration
invariant-loop-declaration l = record {
  names_are : map occurrence_of l.list.items
      ++ occurrences_behind l.heads l.before (map declaration_syntax (drop l.declaration-index l.declarations))
      ≡ occurrences l.heads (map declaration_syntax l.declarations);
  few : length l.before
      + length (occurrences_behind l.heads l.before (map declaration_syntax (drop l.declaration-index l.declarations)))
      < 2 ^ 32;
}
