use Rattle.std.proofs.Common.{map, ap, ◌∙◌}
use Rattle.spec_syntax.specs.SyntaxView.{declaration_syntax}
use Rattle.definition_expansion.specs.DefinitionView.{definition_of}
use Rattle.name_resolution.specs.OccurrenceView.{occurrence_of}
use Rattle.tsl_reader.proofs.TextParts.{few_heads, few_names, few_levels, text_parts}
use Rattle.tsl_reader.proofs.stages.sections_of.Goals as goal

pub heads-requires : goal.heads-requires
heads-requires c = few_heads (rw (← c.as_slice-read.ensures.value) at c.in_ok-declarations.ensures.derived) c.requires.text

pub occurrences-requires-clause-few : goal.occurrences-requires-clause-few
occurrences-requires-clause-few c =
    rw c.in_ok-heads.ensures (few_names (rw (← c.as_slice-read.ensures.value) at c.in_ok-declarations.ensures.derived) c.requires.text)

pub occurrences-requires-clause-levels : goal.occurrences-requires-clause-levels
occurrences-requires-clause-levels c = few_levels (rw (← c.as_slice-read.ensures.value) at c.in_ok-declarations.ensures.derived)

pub parts_of-requires : goal.parts_of-requires
parts_of-requires c = few_heads c.in_ok-declarations.ensures.derived c.requires.text

pub sections_of_parts-requires-clause-parts : goal.sections_of_parts-requires-clause-parts
sections_of_parts-requires-clause-parts c =
    text_parts c.in_ok-declarations.ensures.derived (ap (map declaration_syntax) c.as_slice-read.ensures.value) c.in_ok-heads.ensures
    (ap (map occurrence_of) c.deref.ensures.value ∙ c.in_ok-occurrences.ensures) c.in_ok-check_heads.ensures.once
    c.in_ok-parts.ensures.sections (ap (map definition_of) c.deref-2.ensures.value ∙ c.in_ok-parts.ensures.definitions)
