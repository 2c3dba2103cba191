use Rattle.std.proofs.Common.{map, ap, sym, ◌∙◌}
use Rattle.std.specs.Prelude.{position}
use Rattle.name_resolution.specs.Faults.{is_head_of}
use Rattle.name_resolution.specs.OccurrenceView.{occurrence_of}
use Rattle.tsl_reader.proofs.TextParts.{named_at, cycle_told, cycle_stands}
use Rattle.tsl_reader.proofs.text_names.cycle_at.Goals as goal

pub unreachable-requires : goal.unreachable-requires
unreachable-requires c =
    let name = named_at c.args.definitions.now c.args.number c.index-definitions-number.result c.requires.cycle.definition
    c.requires.cycle.here in
    cycle_stands c.requires.parts.1 c.requires.cycle
    (c.head_place.ensures ∙ ap (λ x. position (is_head_of x) (map occurrence_of c.args.names.occurrences.now)) name)
    (sym c.in-None.is ∙ c.told_token.ensures)

pub returns : goal.returns
returns c =
    let name = named_at c.args.definitions.now c.args.number c.index-definitions-number.result c.requires.cycle.definition
    c.requires.cycle.here in
    cycle_told c.requires.parts.1 c.requires.cycle
    (c.head_place.ensures ∙ ap (λ x. position (is_head_of x) (map occurrence_of c.args.names.occurrences.now)) name)
    (sym c.in-Some.is ∙ c.told_token.ensures)
