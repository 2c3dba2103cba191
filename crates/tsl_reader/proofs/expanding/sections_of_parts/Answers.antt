use Rattle.std.proofs.Common.{[], map, sym, ◌∙◌}
use Rattle.spec_syntax.specs.SyntaxView.{section_syntax}
use Rattle.tsl_reader.proofs.TextParts.{none_to_order}
use Rattle.tsl_reader.proofs.PlainTexts.{no_definition, plain_expanded}
use Rattle.tsl_reader.proofs.expanding.sections_of_parts.Goals as goal

pub check_names-requires-clause-ordered : goal.check_names-requires-clause-ordered
check_names-requires-clause-ordered c =
    let parts = no_definition c.args.definitions.now (sym c.is_empty.ensures ∙ c.if-not-is_empty.false) c.requires.parts in
    ((map section_syntax c.args.sections.items), [], none_to_order parts)

pub returns-clause-expanded : goal.returns-clause-expanded
returns-clause-expanded c =
    let parts = no_definition c.args.definitions.now (sym c.is_empty.ensures ∙ c.if-not-is_empty.false) c.requires.parts in
    plain_expanded (record {
      ordered = none_to_order parts;
      kinds = c.in_ok-check_names.ensures.kinds;
      arities = c.in_ok-check_names.ensures.arities;
    }) c.requires.text
