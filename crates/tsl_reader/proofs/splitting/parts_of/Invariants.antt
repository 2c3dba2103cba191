use Rattle.std.proofs.Common.{◌≡◌, ◌++◌, ◌<◌, ◌^◌, map, vec_len}
use Rattle.spec_syntax.specs.Syntax.{sections_among}
use Rattle.spec_syntax.specs.SyntaxView.{section_syntax, declaration_syntax}
use Rattle.definition_expansion.specs.DefinitionView.{definition_of}
use Rattle.name_resolution.specs.Heads.{definitions_in, heads_size}
use Rattle.tsl_reader.specs.ReadText.{with_names_once}
use Rattle.tsl_reader.proofs.Splits.{left_in}
use Rattle.tsl_reader.proofs.splitting.parts_of.Given as goal

-- the parts that were taken, and then those of the declarations that are left
abbrev pub invariant-loop-declaration : goal.invariant-loop-declaration
invariant-loop-declaration l = record {
  sections : map section_syntax l.parts.sections.items ++ sections_among (left_in l.declarations.items)
      ≡ sections_among (map declaration_syntax l.fn.declarations.items);
  definitions : map definition_of l.parts.definitions.items ++ map with_names_once (definitions_in (left_in l.declarations.items))
      ≡ map with_names_once (definitions_in (map declaration_syntax l.fn.declarations.items));
  few : heads_size (left_in l.declarations.items) < 2 ^ 32;
}

abbrev pub decreases-loop-declaration : goal.decreases-loop-declaration
decreases-loop-declaration l = vec_len l.declarations
