use Rattle.std.proofs.Common.{map, ap, sym, ◌∙◌}
use Rattle.std.specs.Prelude.{position}
use Rattle.name_resolution.specs.Faults.{is_deep_use}
use Rattle.name_resolution.specs.OccurrenceView.{occurrence_of}
use Rattle.name_resolution.specs.WellDeclared.{is_use_too_deep}
use Rattle.tsl_reader.proofs.LevelsOfSizes.{levels_are, first_by_levels}
use Rattle.tsl_reader.proofs.TextParts.{none, deep_told}
use Rattle.tsl_reader.proofs.text_names.check_uses.Goals as goal

pub returns-in-Some-clause-cause : goal.returns-in-Some-clause-cause
returns-in-Some-clause-cause c =
    let heads = c.args.names.heads.now in
    let all = map occurrence_of c.args.names.occurrences.now in
    deep_told (sym c.in-Some.is ∙ c.told_token.ensures) c.requires.well.2
    (c.first_deep_use-deep.ensures ∙ ap (λ levels. position (is_deep_use heads levels) all) (c.deref.ensures.value ∙ c.in_ok-levels.ensures)
    ∙ first_by_levels heads _ c.requires.well.1 (levels_are heads c.requires.well.1 c.args.sizes.now c.requires.well.3) all)

pub returns-clause-within : goal.returns-clause-within
returns-clause-within c = λ ds are.
    let heads = c.args.names.heads.now in
    let all = map occurrence_of c.args.names.occurrences.now in
    none c.requires.well.2.ordered.parts.named (λ hs os. is_use_too_deep ds)
    (c.first_deep_use-deep.ensures ∙ ap (λ levels. position (is_deep_use heads levels) all) (c.deref.ensures.value ∙ c.in_ok-levels.ensures)
    ∙ first_by_levels heads _ ds (levels_are heads ds c.args.sizes.now are) all)
    (sym c.in-None.is ∙ c.told_token.ensures)
