use Rattle.std.proofs.Common.{◌≡◌, map, take}
use Rattle.spec_syntax.specs.SyntaxView.{section_syntax}
use Rattle.definition_expansion.specs.DefinitionView.{definition_of}
use Rattle.tsl_reader.specs.Expanding.{expanded_bare}
use Rattle.tsl_reader.proofs.expanding.expanded_sections.Given as goal

-- the expanded sections so far
abbrev pub invariant-loop-section : goal.invariant-loop-section
invariant-loop-section l =
    map section_syntax l.list.items
    ≡ map (expanded_bare (map definition_of l.definitions)) (map section_syntax (take l.section-index l.sections))
