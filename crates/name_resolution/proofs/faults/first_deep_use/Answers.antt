use Rattle.std.proofs.Common.{◌∙◌, sym}
use Rattle.name_resolution.specs.Faults.{is_deep_use}
use Rattle.name_resolution.specs.OccurrenceView.{occurrence_of}
use Rattle.name_resolution.proofs.FirstPlain.{position_map}
use Rattle.name_resolution.proofs.faults.first_deep_use.Goals as goal

pub returns : goal.returns
returns c =
    c.deep_use_place.ensures ∙ sym (position_map occurrence_of (is_deep_use c.args.heads.now c.args.levels.now) c.args.occurrences.now)
